-- Each thing that is done mirrors.
use Rattle.std.proofs.Common.{◌≡◌, ℕ, ◌+◌, Bool, true, false, List, [], ◌∷◌, Option, Some, None, refl, sym, ap, ◌∙◌, subst, length, arith}
use Rattle.def_run.specs.Numbers as run
use Rattle.def_run.specs.Numbers.{way_at}
use Rattle.def_run.specs.Wire.{connected_at}
use Rattle.def_run.specs.World as world
use Rattle.def_machine.specs.State.{Note}
use Rattle.def_machine.specs.Values.{Name}
use Rattle.def_run.specs.World.{Carry, Turn, CutLink, NoticeLink, Idle, Link, link_at, with_link, with_notes}
use Rattle.def_hostile.specs.Hostile as names
use Rattle.def_hostile.specs.Hostile.{Play, Doing, Does, Injects, Scene, Acted, Plays, Breaks, is_hostile, frames_at, with_frames, counts}
use Rattle.def_hostile.specs.Judge.{Verdict, Lawful, Malformed, verdict}
use Rattle.def_hostile.specs.Numbers as numbers
use Rattle.def_hostile.specs.Numbers.{Cast, Performed, Performs, Ceases}
use Rattle.law_frame.proofs.Local.Positions.{there_is}
use Rattle.law_hostile_frame.specs.Mirrors.{SceneMirrors, ActsMirror}
use Rattle.law_hostile_frame.proofs.Cuts.{cuts_mirror}
use Rattle.law_hostile_frame.proofs.Malformed.{malformed_frames_mirror, shown_same}
use Rattle.law_hostile_frame.proofs.Steps.{told, injections_mirror, idle_turns_mirror, idle_notices_mirror, unread_frames_mirror}
use Rattle.law_hostile_mirror.specs.Doings.{IsBefore, ScenesAreKnown, ArrivalsMirror, DoingsMirror, PlaysHaveOneText}
use Rattle.law_hostile_mirror.proofs.Own.{turns_mirror, notices_mirror, openings_mirror, acted_leaves}
use Rattle.law_hostile_mirror.proofs.Plays.{plays_mirror, texts_mirror}
use Rattle.law_hostile_mirror.proofs.Swallows.{carries_to_hostile_vats_mirror}

-- what stops leaves what there was before, on both sides
both_leave : (play : Play) (s : Scene) (c : Cast) (a : Acted) (b : Performed) → SceneMirrors play s c → ActsMirror play a b → ActsMirror play (names.or_leaves s a) (numbers.or_before play c b)
unfolding names.or_leaves numbers.or_before
both_leave play s c (Plays t) (Performs d) h m = m
both_leave play s c (Breaks e k t) (Ceases f n d) h m = (m.0, m.1, shown_same play s c h)
both_leave play s c (Plays t) (Ceases f n d) h m = absurd m
both_leave play s c (Breaks e k t) (Performs d) h m = absurd m

module _ (play : Play) (known : ScenesAreKnown play) (arrivals : ArrivalsMirror play) (s : Scene) (c : Cast) (h : SceneMirrors play s c) (k : ℕ) where
  turn_by : (v : ℕ) → IsBefore play (Does (Turn v)) k s → (b : Bool) → is_hostile play v ≡ b → ActsMirror play (names.does play (Does (Turn v)) k s) (numbers.does play (Does (Turn v)) k c)
  turn_by v before true e = idle_turns_mirror play v k s c e h
  turn_by v before false e = turns_mirror play v k s c e (known.turns v k s before e) h

  noticed_by : (v w : ℕ) (b : Bool) → b ≡ false → ActsMirror play (names.acted (names.step_of play k) s [] (world.step play.script (NoticeLink v w) k s.world)) (numbers.acted (names.step_of play k) v c (run.step play.script (NoticeLink v w) k c.vats))
      → ActsMirror play (names.or_leaves s (names.does_notice play b k v w s)) (numbers.does_notice play b k v w c)
  unfolding names.does_notice numbers.does_notice
  noticed_by v w true e a = cc
  noticed_by v w false e a = acted_leaves play (names.step_of play k) s (world.step play.script (NoticeLink v w) k s.world) (numbers.acted (names.step_of play k) v c (run.step play.script (NoticeLink v w) k c.vats)) a

  notice_by : (v w : ℕ) → IsBefore play (Does (NoticeLink v w)) k s → (b : Bool) → is_hostile play v ≡ b → ActsMirror play (names.does play (Does (NoticeLink v w)) k s) (numbers.does play (Does (NoticeLink v w)) k c)
  unfolding names.does names.tries numbers.does
  notice_by v w before true e = idle_notices_mirror play v w k s c e h
  notice_by v w before false e = noticed_by v w (is_hostile play v) e (notices_mirror play v w k (names.step_of play k) s c e (known.notices v w k s before e) h)

  -- ---- carries

  -- a step of a link leaves what there was before where it stops
  link_leaves : (v u : ℕ) (o : Option Link) (b : Performed) → ActsMirror play (names.carry_link play k v u s o) b → ActsMirror play (names.or_leaves s (names.carry_link play k v u s o)) b
  unfolding names.carry_link names.carry_notes names.happens names.or_leaves
  link_leaves v u None b a = a
  link_leaves v u (Some l) b a = by l.cut l.notes a
    where
      by : (d : Bool) (ns : List (Note Name)) → ActsMirror play (elim d [ true ↦ names.happens (Idle k) s | false ↦ names.carry_notes play k v u s ns ]) b → ActsMirror play (names.or_leaves s (elim d [ true ↦ names.happens (Idle k) s | false ↦ names.carry_notes play k v u s ns ])) b
      by true ns m = m
      by false [] m = m
      by false (n ∷ ns) m = acted_leaves play (names.step_of play k) s (names.comes play (is_hostile play u) k v u (record s.world { links = with_link (with_notes ns) v u s.world.links }) n) b m

  link_by : (v u : ℕ) → IsBefore play (Does (Carry v u)) k s → (b : Bool) → is_hostile play u ≡ b → ActsMirror play (names.carry_link play k v u s (link_at v u s.world.links)) (numbers.carry_way play k v u c (way_at v u c.vats.ways))
  link_by v u before true e = carries_to_hostile_vats_mirror play v u k s c (known.apart v u k s before) e (known.hearing v u k s before e) h
  link_by v u before false e = arrivals.notes v u k s c before e h

  link_so : (v u : ℕ) → IsBefore play (Does (Carry v u)) k s → ActsMirror play (names.or_leaves s (names.carry_link play k v u s (link_at v u s.world.links))) (numbers.carry_way play k v u c (way_at v u c.vats.ways))
  link_so v u before = link_leaves v u (link_at v u s.world.links) (numbers.carry_way play k v u c (way_at v u c.vats.ways)) (link_by v u before (is_hostile play u) refl)

  -- the first of the frames that are injected on a link of a hostile vat
  frame_by : (v u : ℕ) (b : Bool) → b ≡ false → (f : List ℕ) (fs : List (List ℕ))
      → ActsMirror play (names.frame_comes play false k v u f (record s { raws = with_frames (λ old. fs) v u s.raws })) (numbers.frame_comes play false k v u f (record c { raws = with_frames (λ old. fs) v u c.raws }))
      → ActsMirror play (names.or_leaves s (names.frame_comes play b k v u f (record s { raws = with_frames (λ old. fs) v u s.raws }))) (numbers.or_before play c (numbers.frame_comes play b k v u f (record c { raws = with_frames (λ old. fs) v u c.raws })))
  frame_by v u true e f fs a = cc
  frame_by v u false e f fs a = both_leave play s c (names.frame_comes play false k v u f (record s { raws = with_frames (λ old. fs) v u s.raws })) (numbers.frame_comes play false k v u f (record c { raws = with_frames (λ old. fs) v u c.raws })) h a

  -- with that frame off the link
  raws_off : (v u : ℕ) (fs : List (List ℕ)) → SceneMirrors play (record s { raws = with_frames (λ old. fs) v u s.raws }) (record c { raws = with_frames (λ old. fs) v u c.raws })
  raws_off v u fs = told play s c s.world.history c.vats.history s.lines c.lines (with_frames (λ old. fs) v u s.raws) (with_frames (λ old. fs) v u c.raws) h h.history h.lines (ap (λ rs. with_frames (λ old. fs) v u rs) h.raws)

  judged_by : (v u : ℕ) → IsBefore play (Does (Carry v u)) k s → is_hostile play v ≡ true → is_hostile play u ≡ false → (f : List ℕ) (fs : List (List ℕ)) → frames_at v u s.raws ≡ f ∷ fs
      → (x : Verdict) → verdict (length play.script.vats) u v (counts (connected_at u v s.world.connections).tables) f ≡ x
      → ActsMirror play (names.frame_comes play false k v u f (record s { raws = with_frames (λ old. fs) v u s.raws })) (numbers.frame_comes play false k v u f (record c { raws = with_frames (λ old. fs) v u c.raws }))
  judged_by v u before bad good f fs e (Lawful op kinds) i = arrivals.frames v u k s c f fs op kinds before bad good e i h
  judged_by v u before bad good f fs e (Malformed place) i =
      let ends = known.ends v u k s before in
      let t = there_is s.world.vats u ends.1 in
      let m = there_is c.vats.members u (let w = h.count in let z = ends.1 in omega arith) in
      malformed_frames_mirror play v u place k f (record s { raws = with_frames (λ old. fs) v u s.raws }) (record c { raws = with_frames (λ old. fs) v u c.raws }) t.0 m.0
      (λ y d cut mirrors. notices_mirror play u v k (names.step_of play k) (record s { world = y; raws = names.raws_cut v u (with_frames (λ old. fs) v u s.raws) }) d good (known.severed v u k s y before good cut) mirrors)
      good (let w = h.count in let z = ends.0 in omega arith) (raws_off v u fs) t.1 m.1 (known.tables v u k s t.0 before good t.1) i

  frames_by : (v u : ℕ) → IsBefore play (Does (Carry v u)) k s → is_hostile play v ≡ true → is_hostile play u ≡ false → (xs : List (List ℕ)) → frames_at v u s.raws ≡ xs
      → ActsMirror play (names.or_leaves s (names.carry play k v u s xs)) (numbers.carry play k v u c xs)
  unfolding names.carry numbers.carry
  frames_by v u before bad good [] e = link_so v u before
  frames_by v u before bad good (f ∷ fs) e = frame_by v u (is_hostile play u) good f fs (judged_by v u before bad good f fs e (verdict (length play.script.vats) u v (counts (connected_at u v s.world.connections).tables) f) refl)

  none_injected : (v u : ℕ) → IsBefore play (Does (Carry v u)) k s → ActsMirror play (names.or_leaves s (names.carry play k v u s [])) (numbers.carry play k v u c [])
  unfolding names.carry numbers.carry
  none_injected v u before = link_so v u before

  from_link : (v u : ℕ) (b : Bool) → is_hostile play v ≡ true → ActsMirror play (names.or_leaves s (names.carry play k v u s (frames_at v u s.raws))) (numbers.carry play k v u c (frames_at v u c.raws))
      → ActsMirror play (names.or_leaves s (names.does_carry play (is_hostile play v) k v u s)) (numbers.does_carry play (is_hostile play v) k v u c)
  unfolding names.does_carry numbers.does_carry
  from_link v u b e a = by (is_hostile play v) e
    where
      by : (d : Bool) → d ≡ true → ActsMirror play (names.or_leaves s (names.does_carry play d k v u s)) (numbers.does_carry play d k v u c)
      by true i = a
      by false i = cc

  from_way : (v u : ℕ) → is_hostile play v ≡ false → ActsMirror play (names.or_leaves s (names.carry_link play k v u s (link_at v u s.world.links))) (numbers.carry_way play k v u c (way_at v u c.vats.ways))
      → ActsMirror play (names.or_leaves s (names.does_carry play (is_hostile play v) k v u s)) (numbers.does_carry play (is_hostile play v) k v u c)
  unfolding names.does_carry numbers.does_carry
  from_way v u e a = by (is_hostile play v) e
    where
      by : (d : Bool) → d ≡ false → ActsMirror play (names.or_leaves s (names.does_carry play d k v u s)) (numbers.does_carry play d k v u c)
      by true i = cc
      by false i = a

  carried_by : (v u : ℕ) → IsBefore play (Does (Carry v u)) k s → (a : Bool) → is_hostile play v ≡ a → (b : Bool) → is_hostile play u ≡ b → (xs : List (List ℕ)) → frames_at v u s.raws ≡ xs
      → ActsMirror play (names.does play (Does (Carry v u)) k s) (numbers.does play (Does (Carry v u)) k c)
  unfolding names.does names.tries numbers.does
  carried_by v u before true a true b (f ∷ fs) e = unread_frames_mirror play v u k s c f fs a b e h
  carried_by v u before true a true b [] e = from_link v u true a (subst (λ xs. ActsMirror play (names.or_leaves s (names.carry play k v u s xs)) (numbers.carry play k v u c (frames_at v u c.raws))) (sym e)
      (subst (λ xs. ActsMirror play (names.or_leaves s (names.carry play k v u s [])) (numbers.carry play k v u c xs)) (sym (ap (frames_at v u) h.raws ∙ e)) (none_injected v u before)))
  carried_by v u before true a false b xs e = from_link v u true a (subst (λ ys. ActsMirror play (names.or_leaves s (names.carry play k v u s (frames_at v u s.raws))) (numbers.carry play k v u c ys)) (sym (ap (frames_at v u) h.raws)) (frames_by v u before a b (frames_at v u s.raws) refl))
  carried_by v u before false a b d xs e = from_way v u a (link_so v u before)

  doing_so : (d : Doing) → IsBefore play d k s → ActsMirror play (names.does play d k s) (numbers.does play d k c)
  doing_so (Does (Turn v)) before = turn_by v before (is_hostile play v) refl
  doing_so (Does (Carry v u)) before = carried_by v u before (is_hostile play v) refl (is_hostile play u) refl (frames_at v u s.raws) refl
  doing_so (Does (CutLink v u)) before = cuts_mirror play v u k s c h
  doing_so (Does (NoticeLink v w)) before = notice_by v w before (is_hostile play v) refl
  doing_so (Injects v u bytes) before = injections_mirror play v u k bytes s c h

pub doings_mirror : DoingsMirror
doings_mirror play known arrivals = plays_mirror play (record {
  openings = λ ps rest p s c split opened honest fresh h. openings_mirror play (length ps) p s c honest fresh (known.openings ps rest p s split opened honest) h;
  doings = λ opened s c ds rest d split begun done h. doing_so play known arrivals s c h (1 + length ds) d (opened, ds, rest, split, refl, begun, done);
})

pub plays_have_one_text : PlaysHaveOneText
plays_have_one_text play known arrivals = texts_mirror play (names.acts play) (numbers.performs play) (doings_mirror play known arrivals)
