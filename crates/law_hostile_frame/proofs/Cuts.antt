-- A cut of a link, where some vats are hostile.
use Rattle.std.proofs.Common.{◌≡◌, ℕ, ◌<◌, length, Bool, true, false, List, [], ◌∷◌, ◌++◌, Option, Some, None, inl, inr, refl, sym, ap, ◌∙◌, subst, map, drop, append-nil}
use Rattle.std.specs.Prelude.{slice_get}
use Rattle.def_machine.specs.Values.{Name}
use Rattle.def_machine.specs.State.{Vat, Note, Deliver, is_in}
use Rattle.def_run.specs.Numbers as run
use Rattle.def_run.specs.Numbers.{Frame, Way, Vats, severed, way_at, with_way, carried_in, lost_frames, ready}
use Rattle.def_run.specs.Vats.{Member}
use Rattle.def_run.specs.Wire.{connected_at}
use Rattle.def_run.specs.World as world
use Rattle.def_run.specs.World.{Script, Event, CutAt, LostCut, Link, World, link_at, with_link, severed_link, is_link, lost_by, readied}
use Rattle.def_hostile.specs.Claims.{Claim, is_claimed, is_made, made_on}
use Rattle.def_hostile.specs.Hostile as names
use Rattle.def_hostile.specs.Hostile.{Play, Scene, Line, Told, Raw, raws_cut}
use Rattle.def_hostile.specs.Made.{made_by, with_gifts}
use Rattle.def_hostile.specs.Numbers as numbers
use Rattle.def_hostile.specs.Numbers.{Cast, made_after, puts_of}
use Rattle.def_hostile.specs.Outsiders.{Outsider}
use Rattle.law_fate.specs.Name.Names.{AllOf}
use Rattle.law_frame.specs.Local.Mirrors.{WayMirrors, WaysMirror, FramesDue}
use Rattle.law_frame.proofs.Local.Ways.{MayMirror, Came, at_mirrors, with_mirrors, way_came}
use Rattle.law_hostile_frame.specs.Cuts.{CutsMirror}
use Rattle.law_hostile_frame.specs.Tables.{table_in}
use Rattle.law_hostile_frame.specs.Mirrors.{VatMirrors, HonestMirrors, OutsiderMirrors, SceneMirrors}

joined : {ws xs ys zs : List Event} → ws ≡ xs → ys ≡ zs → ws ++ ys ≡ xs ++ zs
joined e i = cc

pub lines_joined : {ws xs ys zs : List Line} → ws ≡ xs → ys ≡ zs → ws ++ ys ≡ xs ++ zs
lines_joined e i = cc

-- ---- what a cut leaves of links and ways

severed_mirrors : (l : Link) (x : Way) → WayMirrors l x → WayMirrors (severed_link l) (severed x)
unfolding severed_link severed
severed_mirrors l x h = record { from = h.from; to = h.to; cut = refl; notes = refl }

cut_ways : (v u : ℕ) (ls : List Link) (xs : List Way) → WaysMirror ls xs → WaysMirror (with_link severed_link u v (with_link severed_link v u ls)) (with_way severed u v (with_way severed v u xs))
cut_ways v u ls xs h = with_mirrors severed_link severed severed_mirrors u v (with_link severed_link v u ls) (with_way severed v u xs) (with_mirrors severed_link severed severed_mirrors v u ls xs h)

no_both : {A : Type 0} (c : Bool) → c ≡ true → c ≡ false → A
no_both c e f = cc

is_severed : (x y : Way) → x ≡ severed y → x.cut ≡ true
unfolding severed
is_severed x y i = ap (λ (z : Way). z.cut) i

-- a way that is not cut after it was there before
uncut_before : (a b v u : ℕ) (xs : List Way) (x : Way) → way_at v u (with_way severed a b xs) ≡ Some x → x.cut ≡ false → way_at v u xs ≡ Some x
unfolding severed
uncut_before a b v u xs x e c = by (way_came severed (λ y. refl) (λ y. refl) a b v u xs x e)
  where
    by : Came severed (λ y. refl) (λ y. refl) a b v u xs x → way_at v u xs ≡ Some x
    by (inl h) = no_both x.cut (is_severed x h.2.0 h.2.2) c
    by (inr h) = h.1

-- nor does a cut make a way
ends_before : (a b v u : ℕ) (xs : List Way) (n : ℕ) → ((x : Way) → way_at v u xs ≡ Some x → (v < n) × (u < n)) → (x : Way) → way_at v u (with_way severed a b xs) ≡ Some x → (v < n) × (u < n)
unfolding severed
ends_before a b v u xs n h x e = by (way_came severed (λ y. refl) (λ y. refl) a b v u xs x e)
  where
    by : Came severed (λ y. refl) (λ y. refl) a b v u xs x → (v < n) × (u < n)
    by (inl k) = h k.2.0 k.2.1
    by (inr k) = h x k.1

note_lost : (script : Script) (n : Note Name) (ns : List (Note Name)) → map LostCut (carried_in n) ++ lost_by script ns ≡ lost_by script (n ∷ ns)
unfolding lost_by carried_in
note_lost script (Deliver d n verb ys) ns = refl
note_lost script other ns = refl

lost_same : (script : Script) (xs : List Frame) → lost_frames xs ≡ lost_by script (map (λ (f : Frame). f.note) xs)
unfolding lost_frames lost_by
lost_same script [] = refl
lost_same script (x ∷ xs) = ap (λ es. map LostCut (carried_in x.note) ++ es) (lost_same script xs) ∙ note_lost script x.note (map (λ (f : Frame). f.note) xs)

lost_may : (script : Script) (o : Option Link) (p : Option Way) → MayMirror o p → run.lost_on p ≡ world.lost_on script o
unfolding run.lost_on world.lost_on
lost_may script None None h = refl
lost_may script (Some l) (Some x) h = lost_same script x.frames ∙ ap (lost_by script) h.notes
lost_may script (Some l) None h = absurd h
lost_may script None (Some x) h = absurd h

-- ---- what was put stays made

abbrev made_then : Bool → Bool → Bool
made_then b x = elim b [ true ↦ true | false ↦ x ]

made_severed : (h i : ℕ) (b : Bool) (l : Link) → made_on h i b (severed_link l) ≡ made_on h i b l
unfolding made_on severed_link
made_severed h i true l = refl
made_severed h i false l = refl

made_or : (b : Bool) (hs : List ℕ) (h i : ℕ) (l : Link) (ls ms : List Link) → is_made hs h i ms ≡ is_made hs h i ls → is_made hs h i (elim b [ true ↦ severed_link l ∷ ls | false ↦ l ∷ ms ]) ≡ is_made hs h i (l ∷ ls)
unfolding is_made severed_link
made_or true hs h i l ls ms e = ap (λ b. made_then b (is_made hs h i ls)) (made_severed h i (is_in l.from hs) l)
made_or false hs h i l ls ms e = ap (λ x. made_then (made_on h i (is_in l.from hs) l) x) e

made_cut : (hs : List ℕ) (h i a b : ℕ) (ls : List Link) → is_made hs h i (with_link severed_link a b ls) ≡ is_made hs h i ls
unfolding with_link
made_cut hs h i a b [] = refl
made_cut hs h i a b (l ∷ ls) = made_or (is_link a b l) hs h i l ls (with_link severed_link a b ls) (made_cut hs h i a b ls)

with_all : (gs cs : List Claim) → AllOf (λ (g : Claim). is_claimed cs g.host g.number ≡ true) gs → with_gifts gs cs ≡ cs
unfolding with_gifts
with_all [] cs a = refl
with_all (g ∷ gs) cs a = ap (λ (b : Bool). with_gifts gs (elim b [ true ↦ cs | false ↦ cs ++ g ∷ [] ])) a.0 ∙ with_all gs cs a.1

pub some_put : (o : Option Member) (cs : List Claim) → ((m : Member) → o ≡ Some m → AllOf (λ (g : Claim). is_claimed cs g.host g.number ≡ true) (made_by m.vat.outbox)) → with_gifts (puts_of o) cs ≡ cs
unfolding puts_of with_gifts
some_put None cs f = refl
some_put (Some m) cs f = with_all (made_by m.vat.outbox) cs (f m refl)

-- ---- a scene after a cut

module _ (play : Play) (s : Scene) (c : Cast) (h : SceneMirrors play s c) (v u : ℕ) (es fs : List Event) where
  abbrev pub links : List Link
  links = with_link severed_link u v (with_link severed_link v u s.world.links)

  abbrev pub ways : List Way
  ways = with_way severed u v (with_way severed v u c.vats.ways)

  abbrev pub now : World
  now = record s.world { links = links; history = es }

  abbrev pub here : Vats
  here = record c.vats { ways = ways; history = fs }

  vat_cut : (t : ℕ) (r : Vat Name) (m : Member) → VatMirrors s.world c.vats t r m → VatMirrors now here t r m
  unfolding table_in readied ready
  vat_cut t r m k = record { placed = k.placed; stands = k.stands; known = k.known; mails = k.mails; positions = k.positions; peers = k.peers; connections = k.connections; learnt = k.learnt }

  honest_cut : (t : ℕ) (r : Vat Name) (m : Member) → HonestMirrors play s.world c.vats t r m → HonestMirrors play now here t r m
  honest_cut t r m k = record { vat = vat_cut t r m k.vat; knows = k.knows }

  outsider_cut : (t : ℕ) (r : Vat Name) (o : Outsider) (g : Member) → OutsiderMirrors s.world c.vats play t r o g → OutsiderMirrors now here play t r o g
  outsider_cut t r o g k = record { objects = k.objects; promises = k.promises; messages = k.messages; exports = k.exports; plain = k.plain; peers = k.peers; idle = k.idle; empty = k.empty }

  cut_frames : (a b : ℕ) (x : Way) → way_at a b ways ≡ Some x → x.cut ≡ false → FramesDue (connected_at a b s.world.connections) (connected_at b a s.world.connections) x
  cut_frames a b x e d = h.frames a b x (uncut_before v u a b c.vats.ways x (uncut_before u v a b (with_way severed v u c.vats.ways) x e d) d) d

  cut_ends : (a b : ℕ) (x : Way) → way_at a b ways ≡ Some x → (a < length c.vats.members) × (b < length c.vats.members)
  cut_ends a b x e = ends_before u v a b (with_way severed v u c.vats.ways) (length c.vats.members) (λ y. ends_before v u a b c.vats.ways (length c.vats.members) (h.ends a b) y) x e

  -- with these lines, raw frames and gifts that were made
  pub cut_so : (ls ks : List Line) (rs qs : List Raw) (gs : List Claim) → fs ≡ es → ks ≡ ls → qs ≡ rs → gs ≡ c.made → SceneMirrors play (record s { world = now; lines = ls; raws = rs }) (record c { vats = here; lines = ks; raws = qs; made = gs })
  cut_so ls ks rs qs gs e i j g = record {
    fuel = h.fuel;
    drawn = h.drawn;
    history = e;
    lines = i;
    raws = j;
    claims = h.claims;
    made = λ a b. ap (λ xs. is_claimed xs a b) g ∙ h.made a b ∙ sym (made_cut play.hostile a b u v (with_link severed_link v u s.world.links) ∙ made_cut play.hostile a b v u s.world.links);
    puts = λ t m k. subst (λ xs. AllOf (λ (x : Claim). is_claimed xs x.host x.number ≡ true) (made_by m.vat.outbox)) (sym g) (h.puts t m k);
    count = h.count;
    outsiders = h.outsiders;
    ways = cut_ways v u s.world.links c.vats.ways h.ways;
    ends = cut_ends;
    frames = cut_frames;
    references = h.references;
    honest = λ t r m a b d. honest_cut t r m (h.honest t r m a b d);
    hostile = λ t r o g a b d f. outsider_cut t r o g (h.hostile t r o g a b d f);
  }

-- ---- the entry

pub told_alike : (w y : World) (W Y : Vats) → W.history ≡ w.history → Y.history ≡ y.history → numbers.told_since W Y ≡ names.told_since w y
unfolding numbers.told_since names.told_since
told_alike w y W Y e f = ap (λ (hs : List Event). map Told (drop (length hs) Y.history)) e ∙ ap (λ (hs : List Event). map Told (drop (length w.history) hs)) f

-- what a cut adds to the history
pub cut_told : (play : Play) (s : Scene) (c : Cast) → SceneMirrors play s c → (k v u : ℕ)
    → c.vats.history ++ CutAt k v u ∷ (run.lost_on (way_at v u c.vats.ways) ++ run.lost_on (way_at u v c.vats.ways)) ≡ s.world.history ++ CutAt k v u ∷ (world.lost_on play.script (link_at v u s.world.links) ++ world.lost_on play.script (link_at u v s.world.links))
cut_told play s c h k v u =
    joined h.history (ap (λ xs. CutAt k v u ∷ xs) (joined (lost_may play.script (link_at v u s.world.links) (way_at v u c.vats.ways) (at_mirrors v u s.world.links c.vats.ways h.ways)) (lost_may play.script (link_at u v s.world.links) (way_at u v c.vats.ways) (at_mirrors u v s.world.links c.vats.ways h.ways))))

pub cuts_mirror : CutsMirror
unfolding names.does names.tries names.or_leaves numbers.does names.acted numbers.acted world.step run.step world.cut run.cut made_after
cuts_mirror play v u k s c h =
    let es : List Event = s.world.history ++ CutAt k v u ∷ (world.lost_on play.script (link_at v u s.world.links) ++ world.lost_on play.script (link_at u v s.world.links)) in
    let fs : List Event = c.vats.history ++ CutAt k v u ∷ (run.lost_on (way_at v u c.vats.ways) ++ run.lost_on (way_at u v c.vats.ways)) in
    let e : fs ≡ es = cut_told play s c h k v u in
    cut_so play s c h v u es fs
    (s.lines ++ [] ++ names.told_since s.world (now play s c h v u es fs))
    (c.lines ++ numbers.told_since c.vats (here play s c h v u es fs))
    (raws_cut v u s.raws) (raws_cut v u c.raws) (with_gifts (puts_of (slice_get c.vats.members v)) c.made)
    e
    (lines_joined (h.lines ∙ sym (append-nil s.lines)) (told_alike s.world (now play s c h v u es fs) c.vats (here play s c h v u es fs) h.history e))
    (ap (raws_cut v u) h.raws)
    (some_put (slice_get c.vats.members v) c.made (h.puts v))
