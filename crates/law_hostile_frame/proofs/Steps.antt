-- Entries that no honest vat takes part in change lines, raw frames and histories alone.
use Rattle.std.proofs.Common.{◌≡◌, ℕ, Bool, true, false, List, [], ◌∷◌, ◌++◌, sym, ap, subst, map}
use Rattle.def_machine.specs.State.{Vat}
use Rattle.def_machine.specs.Values.{Name}
use Rattle.def_run.specs.Numbers.{Vats, ready, link_of}
use Rattle.def_run.specs.Vats.{Member}
use Rattle.def_run.specs.World.{World, Event, Idle, NoticedAt, readied, is_cut}
use Rattle.def_hostile.specs.Hostile as names
use Rattle.def_hostile.specs.Hostile.{Play, Scene, Line, Told, Injected, NotInjected, Unread, Raw, Does, Injects, is_hostile, frames_at, with_frames}
use Rattle.def_hostile.specs.Numbers as numbers
use Rattle.def_hostile.specs.Numbers.{Cast}
use Rattle.def_hostile.specs.Outsiders.{Outsider}
use Rattle.law_frame.proofs.Local.Ways.{same_cut}
use Rattle.law_hostile_frame.specs.Tables.{table_in}
use Rattle.law_hostile_frame.specs.Mirrors.{VatMirrors, HonestMirrors, OutsiderMirrors, SceneMirrors, ActsMirror}
use Rattle.law_hostile_frame.specs.Steps.{LinesMirror, EventsMirror, InjectionsMirror, IdleTurnsMirror, IdleNoticesMirror, UnreadFramesMirror}

-- ---- more lines

vat_told : (w : World) (W : Vats) (es fs : List Event) (u : ℕ) (s : Vat Name) (m : Member) → VatMirrors w W u s m → VatMirrors (record w { history = es }) (record W { history = fs }) u s m
unfolding table_in readied ready
vat_told w W es fs u s m h = record { placed = h.placed; stands = h.stands; known = h.known; mails = h.mails; positions = h.positions; peers = h.peers; connections = h.connections; learnt = h.learnt }

honest_told : (w : World) (W : Vats) (play : Play) (es fs : List Event) (u : ℕ) (s : Vat Name) (m : Member) → HonestMirrors play w W u s m → HonestMirrors play (record w { history = es }) (record W { history = fs }) u s m
honest_told w W play es fs u s m h = record { vat = vat_told w W es fs u s m h.vat; knows = h.knows }

outsider_told : (w : World) (W : Vats) (play : Play) (es fs : List Event) (h : ℕ) (r : Vat Name) (o : Outsider) (g : Member) → OutsiderMirrors w W play h r o g → OutsiderMirrors (record w { history = es }) (record W { history = fs }) play h r o g
outsider_told w W play es fs h r o g k = record { objects = k.objects; promises = k.promises; messages = k.messages; exports = k.exports; plain = k.plain; peers = k.peers; idle = k.idle; empty = k.empty }

-- with these histories, lines and raw frames
pub told : (play : Play) (s : Scene) (c : Cast) (es fs : List Event) (ls ks : List Line) (rs qs : List Raw) → SceneMirrors play s c → fs ≡ es → ks ≡ ls → qs ≡ rs
    → SceneMirrors play (record s { world = record s.world { history = es }; lines = ls; raws = rs }) (record c { vats = record c.vats { history = fs }; lines = ks; raws = qs })
told play s c es fs ls ks rs qs h e i j = record {
  fuel = h.fuel;
  drawn = h.drawn;
  history = e;
  lines = i;
  raws = j;
  claims = h.claims;
  made = h.made;
  puts = h.puts;
  count = h.count;
  outsiders = h.outsiders;
  ways = h.ways;
  ends = h.ends;
  frames = h.frames;
  references = h.references;
  honest = λ u t m a b d. honest_told s.world c.vats play es fs u t m (h.honest u t m a b d);
  hostile = λ v r o g a b d f. outsider_told s.world c.vats play es fs v r o g (h.hostile v r o g a b d f);
}

-- ---- a line, an event

pub lines_mirror : LinesMirror
unfolding names.tells numbers.tells
lines_mirror play l s c h = told play s c s.world.history c.vats.history (s.lines ++ l ∷ []) (c.lines ++ l ∷ []) s.raws c.raws h h.history (ap (λ ls. ls ++ l ∷ []) h.lines) h.raws

pub events_mirror : EventsMirror
unfolding names.happens numbers.happens
events_mirror play e s c h = told play s c (s.world.history ++ e ∷ []) (c.vats.history ++ e ∷ []) (s.lines ++ Told e ∷ []) (c.lines ++ Told e ∷ []) s.raws c.raws h (ap (λ es. es ++ e ∷ []) h.history) (ap (λ ls. ls ++ Told e ∷ []) h.lines) h.raws

-- ---- entries

injected_by : (play : Play) (h u k : ℕ) (bytes : List ℕ) (s : Scene) (c : Cast) (a b : Bool) → b ≡ a → SceneMirrors play s c → ActsMirror play (names.or_leaves s (names.injects play a k h u bytes s)) (numbers.injects play b k h u bytes c)
unfolding names.or_leaves names.injects numbers.injects names.tells numbers.tells
injected_by play h u k bytes s c true true e m = lines_mirror play (NotInjected k h u) s c m
injected_by play h u k bytes s c false false e m =
    told play s c s.world.history c.vats.history (s.lines ++ Injected k h u bytes ∷ []) (c.lines ++ Injected k h u bytes ∷ []) (with_frames (λ fs. fs ++ bytes ∷ []) h u s.raws) (with_frames (λ fs. fs ++ bytes ∷ []) h u c.raws) m
    m.history (ap (λ ls. ls ++ Injected k h u bytes ∷ []) m.lines) (ap (λ rs. with_frames (λ fs. fs ++ bytes ∷ []) h u rs) m.raws)
injected_by play h u k bytes s c true false e m = cc
injected_by play h u k bytes s c false true e m = cc

pub injections_mirror : InjectionsMirror
unfolding names.does names.tries numbers.does
injections_mirror play h u k bytes s c m = injected_by play h u k bytes s c (is_cut h u s.world.links) (is_cut h u (map link_of c.vats.ways)) (same_cut h u s.world.links c.vats.ways m.ways) m

pub idle_turns_mirror : IdleTurnsMirror
unfolding names.does names.tries names.or_leaves names.happens numbers.does names.does_turn numbers.does_turn
idle_turns_mirror play h k s c e m = rw e (events_mirror play (Idle k) s c m)

pub idle_notices_mirror : IdleNoticesMirror
unfolding names.does names.tries names.or_leaves names.happens numbers.does names.does_notice numbers.does_notice
idle_notices_mirror play h u k s c e m = rw e (events_mirror play (NoticedAt k h u) s c m)

unread_by : (play : Play) (h u k : ℕ) (f : List ℕ) (fs : List (List ℕ)) (s : Scene) (c : Cast) (b : Bool) → b ≡ true → SceneMirrors play s c
    → ActsMirror play (names.or_leaves s (names.frame_comes play b k h u f (record s { raws = with_frames (λ old. fs) h u s.raws }))) (numbers.or_before play c (numbers.frame_comes play b k h u f (record c { raws = with_frames (λ old. fs) h u c.raws })))
unfolding names.or_leaves names.frame_comes numbers.frame_comes names.tells numbers.tells numbers.or_before
unread_by play h u k f fs s c true e m = told play s c s.world.history c.vats.history (s.lines ++ Unread k h u f ∷ []) (c.lines ++ Unread k h u f ∷ []) (with_frames (λ old. fs) h u s.raws) (with_frames (λ old. fs) h u c.raws) m
    m.history (ap (λ ls. ls ++ Unread k h u f ∷ []) m.lines) (ap (λ rs. with_frames (λ old. fs) h u rs) m.raws)
unread_by play h u k f fs s c false e m = cc

first_unread : (play : Play) (h u k : ℕ) (f : List ℕ) (fs xs : List (List ℕ)) (s : Scene) (c : Cast) → xs ≡ f ∷ fs → is_hostile play u ≡ true → SceneMirrors play s c → ActsMirror play (names.or_leaves s (names.carry play k h u s xs)) (numbers.carry play k h u c xs)
unfolding names.carry numbers.carry
first_unread play h u k f fs [] s c e i m = cc
first_unread play h u k f fs (x ∷ xs) s c e i m = unread_by play h u k x xs s c (is_hostile play u) i m

carried_by : (play : Play) (h u k : ℕ) (s : Scene) (c : Cast) (b : Bool) → b ≡ true → ActsMirror play (names.or_leaves s (names.carry play k h u s (frames_at h u s.raws))) (numbers.carry play k h u c (frames_at h u c.raws))
    → ActsMirror play (names.or_leaves s (names.does_carry play b k h u s)) (numbers.does_carry play b k h u c)
unfolding names.does_carry numbers.does_carry
carried_by play h u k s c true e a = a
carried_by play h u k s c false e a = cc

pub unread_frames_mirror : UnreadFramesMirror
unfolding names.does names.tries numbers.does
unread_frames_mirror play h u k s c f fs e i j m = carried_by play h u k s c (is_hostile play h) e
    (subst (λ xs. ActsMirror play (names.or_leaves s (names.carry play k h u s (frames_at h u s.raws))) (numbers.carry play k h u c xs)) (sym (ap (frames_at h u) m.raws)) (first_unread play h u k f fs (frames_at h u s.raws) s c j i m))
