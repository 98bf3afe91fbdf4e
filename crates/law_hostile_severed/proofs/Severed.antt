-- What stays severed in runs with hostile vats, by what no doing undoes; and what a notice broke is broken in each later scene.
use Rattle.std.proofs.Common.{◌≡◌, ℕ, suc, ◌≤◌, Bool, true, false, List, [], ◌∷◌, Option, Some, refl, sym, ◌∙◌, ap, subst, length, arith}
use Rattle.std.specs.Prelude.{slice_get}
use Rattle.def_machine.specs.Values.{Name, Naming}
use Rattle.def_machine.specs.State.{GiftEntry, Known, Vat}
use Rattle.def_machine.specs.Refs.{entry_of}
use Rattle.def_run.specs.Wire.{connected_at}
use Rattle.def_run.specs.World as world
use Rattle.def_run.specs.World.{Script, Carry, NoticeLink, World, Run, Goes as Going, Stopped, readied, names}
use Rattle.def_hostile.specs.Judge as judge
use Rattle.def_hostile.specs.Judge.{Verdict, verdict}
use Rattle.def_hostile.specs.Hostile as hostile
use Rattle.def_hostile.specs.Hostile.{Play, Scene, Plays, Doing, Does, is_hostile, counts, frames_at, Acted}
use Rattle.law_machine.specs.Machine.Laws.{SameNames, SettledStays, NoticedStays}
use Rattle.law_machine.specs.Machine.Breaks.{still_waits, IsBroken}
use Rattle.law_machine.specs.Run.Runs.{EachVat}
use Rattle.law_machine.proofs.Machine.StepLaws.{names_law, names_names, names_stays}
use Rattle.law_machine.proofs.Machine.BreakLaws.{KnowsMore, Firm, settled_break, object_break, followed_break, severed_stays}
use Rattle.law_machine.proofs.Run.RunKeeps.{IsKeptInRuns}
use Rattle.law_reference.specs.Gift.Gifts.{IsLater, SameGifts, StaysBroken}
use Rattle.law_reference.proofs.Gift.Stays.{gifts_law, gifts_names, gifts_stay, gifts_run}
use Rattle.law_reference.proofs.Gift.BrokenForGood.{still_broken, broken_for_good}
use Rattle.law_injected.specs.HostileRuns.{IsHostile}
use Rattle.law_injected.proofs.HostileKept.{doings_keep, undone}
use Rattle.law_hostile_severed.specs.Severed.{StaysSevered, SeveredStaysInPlays, Breaks, NoticesBreakInPlays, MalformedFramesBreak}

-- ---- one entry

then_once : (r : Run) (f : World → Run) (y : World) → r ≡ Going y → f y ≡ Going y → world.then_goes r f ≡ Going y
unfolding world.then_goes
then_once r f y e g = rw e g

one_step : (script : Script) (v w n : ℕ) (x y : World) → world.step script (NoticeLink v w) n x ≡ Going y → world.steps_from script (NoticeLink v w ∷ []) n x ≡ Going y
unfolding world.steps_from
one_step script v w n x y e = then_once (world.step script (NoticeLink v w) n x) (λ z. Going z) y e refl

-- ---- what no doing undoes

gifts_in_runs : (script : Script) → IsKeptInRuns script (λ v. SameGifts)
unfolding readied
gifts_in_runs script = record { same = λ v s. gifts_law.same s; trans = λ v s t u h k. gifts_law.trans {s = s} {t = t} {u = u} h k; steps = λ v what s. gifts_stay (names script v) what s; ready = λ v w s. gifts_law.same s; taken = λ v s ms. gifts_law.same s }

names_in_runs : (script : Script) → IsKeptInRuns script (λ v. SameNames)
unfolding readied
names_in_runs script = record { same = λ v s. names_law.same s; trans = λ v s t u h k. names_law.trans {s = s} {t = t} {u = u} h k; steps = λ v what s. names_stays (names script v) what s; ready = λ v w s. names_law.same s; taken = λ v s ms. names_law.same s }

-- where each place of the first is one of the second, that has as many
no_fewer : (xs ys : List (Known Name)) → ((i : ℕ) (x : Known Name) → slice_get xs i ≡ Some x → (y : Known Name) × (slice_get ys i ≡ Some y)) → length xs ≤ length ys
no_fewer [] ys h = omega arith
no_fewer (x ∷ xs) [] h = let g = h 0 x refl in none g.0 g.1
  where
    none : (y : Known Name) → slice_get [] 0 ≡ Some y → length (x ∷ xs) ≤ 0
    none y e = cc
no_fewer (x ∷ xs) (y ∷ ys) h = let rest = no_fewer xs ys (λ i z e. h (suc i) z e) in omega arith

knows_more : (s t : Vat Name) → SameNames s t → KnowsMore s t
knows_more s t h = no_fewer s.known t.known (λ i k e. let j = h i k e in (j.0, j.1))

vat_is : (s t : Vat Name) (o : Option (Vat Name)) → o ≡ Some s → o ≡ Some t → s ≡ t
vat_is s t o e i = cc

later_is : (R : ℕ → Vat Name → Vat Name → Type 0) (w x : World) (v : ℕ) (s t : Vat Name) → EachVat R w x → slice_get w.vats v ≡ Some s → slice_get x.vats v ≡ Some t → R v s t
later_is R w x v s t h i j = let g = h v s i in subst (λ z. R v s z) (vat_is g.0 t _ g.1 j) g.2

module _ (play : Play) (who : ℕ) (bad : IsHostile play who) (ds : List Doing) (k : ℕ) (a b : Scene) (e : hostile.does_all play ds k a ≡ Plays b) where
  settlings : EachVat (λ v. SettledStays (names play.script v)) a.world b.world
  settlings = undone.3 play who bad ds k a b e

  noticed : EachVat (λ v. NoticedStays) a.world b.world
  noticed = undone.2 play who bad ds k a b e

  gifts : EachVat (λ v. SameGifts) a.world b.world
  gifts = doings_keep play (λ v. SameGifts) (gifts_in_runs play.script) (λ v. gifts_law) (λ v. gifts_names (names play.script v)) who bad ds k a b e

  known : EachVat (λ v. SameNames) a.world b.world
  known = doings_keep play (λ v. SameNames) (names_in_runs play.script) (λ v. names_law) (λ v. names_names (names play.script v)) who bad ds k a b e

  severed : EachVat (λ v. StaysSevered play.script v) a.world b.world
  severed v s i = let g = settlings v s i in let t : Vat Name = g.0 in let K : Naming Name Name = names play.script v in
      let n = later_is (λ v. NoticedStays) a.world b.world v s t noticed i g.1 in let m = later_is (λ v. SameNames) a.world b.world v s t known i g.1 in let gs = later_is (λ v. SameGifts) a.world b.world v s t gifts i g.1 in
      let firm : Firm K s t = (g.2, n, knows_more s t m) in
      (t, g.1, record { settled = settled_break K s t firm; objects = object_break K s t firm; followed = followed_break K s t firm; apart = severed_stays K s t firm; gifts = gs })

  -- ---- what is broken stays so

  not_opened : (x y : Bool) → (x ≡ true → y ≡ true) → y ≡ false → x ≡ false
  not_opened true y h i = let j : y ≡ true = h refl in cc
  not_opened false y h i = refl

  some_is : {A : Type 0} (x y : A) → Some x ≡ Some y → x ≡ y
  some_is x y f = cc

  on_broken : (v w : ℕ) (s t u : Vat Name) → StaysBroken play.script v w s t → SettledStays (names play.script v) t u → SameGifts s t → SameGifts t u → StaysBroken play.script v w s u
  on_broken v w s t u h stay first later = let K : Naming Name Name = names play.script v in record {
    hosted = λ n i j f. still_broken K n.name t u stay (h.hosted n i j f);
    gifts = λ i g n here p o f j. still_broken K g.name t u stay (h.gifts i g n here p o f j);
    unopened = λ i g z n here there p o f j. by_gift i g z n here (first i g here) there p o f j;
  }
    where
      by_gift : (i : ℕ) (g z : GiftEntry Name) (n : Known Name) → slice_get s.gifts i ≡ Some g → (f : GiftEntry Name) × (slice_get t.gifts i ≡ Some f) × IsLater g f → slice_get u.gifts i ≡ Some z → z.provider ≡ w → z.opened ≡ false
          → entry_of (names play.script v) s.known g.name ≡ Some n → still_waits n.standing ≡ true → IsBroken (names play.script v) u z.name
      by_gift i g z n here (f, at, old) there p o x j = let next = later i f at in let is : next.0 ≡ z = some_is next.0 z (sym next.1 ∙ there) in let now : IsLater f z = rw is at next.2 in
          subst (λ y. IsBroken (names play.script v) u y) (sym now.name) (still_broken (names play.script v) f.name t u stay (h.unopened i g f n here at (sym now.provider ∙ p) (not_opened f.opened z.opened now.opened o) x j))

  -- from a world of which a notice made that of the first scene
  breaks_on : (v w n : ℕ) (x : World) → world.step play.script (NoticeLink v w) n x ≡ Going a.world → Breaks play.script v w x b.world
  breaks_on v w n x i s here near = let one = broken_for_good play.script v w [] n x a.world (one_step play.script v w n x a.world i) s here near in let t : Vat Name = one.0 in let g = settlings v t one.1 in
      let old = later_is (λ v. SameGifts) x a.world v s t (gifts_run play.script (NoticeLink v w ∷ []) n x a.world (one_step play.script v w n x a.world i)) here one.1 in
      let gs = later_is (λ v. SameGifts) a.world b.world v t g.0 gifts one.1 g.1 in (g.0, g.1, on_broken v w s t g.0 one.2 g.2 old gs)

pub severed_stays_in_plays : SeveredStaysInPlays
severed_stays_in_plays play h bad ds k s t e = severed play h bad ds k s t e

-- ---- notices

plays_is : (s t : Scene) → Plays s ≡ Plays t → s ≡ t
plays_is s t e = cc

honest_is : (b : Bool) → (b ≡ true → ⊥) → b ≡ false
honest_is true f = absurd (f refl)
honest_is false f = refl

acted_is : (n : ℕ) (s r : Scene) (run : Run) → hostile.acted n s [] run ≡ Plays r → run ≡ Going r.world
unfolding hostile.acted
acted_is n s r (Going y) e = ap (λ (z : Scene). Going z.world) (plays_is _ r e)
acted_is n s r (Stopped c k y) e = cc

module _ (play : Play) where
  noticed_is : (b : Bool) (k v w : ℕ) (s r : Scene) → b ≡ false → hostile.does_notice play b k v w s ≡ Plays r → world.step play.script (NoticeLink v w) k s.world ≡ Going r.world
  unfolding hostile.does_notice
  noticed_is true k v w s r h e = cc
  noticed_is false k v w s r h e = acted_is _ s r _ e

  -- what does not stop
  plays_on : (s r : Scene) (a : Acted) → hostile.or_leaves s a ≡ Plays r → a ≡ Plays r
  unfolding hostile.or_leaves
  plays_on s r (Plays x) e = e
  plays_on s r (hostile.Breaks c k x) e = cc

  notice_is : (k v w : ℕ) (s r : Scene) → (IsHostile play v → ⊥) → hostile.does play (Does (NoticeLink v w)) k s ≡ Plays r → world.step play.script (NoticeLink v w) k s.world ≡ Going r.world
  unfolding hostile.does hostile.tries
  notice_is k v w s r o e = noticed_is (is_hostile play v) k v w s r (honest_is (is_hostile play v) o) (plays_on s r _ e)

  -- ---- malformed frames

  module _ (k h u : ℕ) (r : Scene) where
    carried : (b : Bool) (s : Scene) → b ≡ true → hostile.does_carry play b k h u s ≡ Plays r → hostile.carry play k h u s (frames_at h u s.raws) ≡ Plays r
    unfolding hostile.does_carry
    carried true s i e = e
    carried false s i e = cc

    framed : (xs : List (List ℕ)) (s : Scene) (bytes : List ℕ) (fs : List (List ℕ)) → xs ≡ bytes ∷ fs → hostile.carry play k h u s xs ≡ Plays r → hostile.frame_comes play (is_hostile play u) k h u bytes (record s { raws = hostile.with_frames (λ old. fs) h u s.raws }) ≡ Plays r
    unfolding hostile.carry
    framed xs s bytes fs i e = let j : hostile.carry play k h u s (bytes ∷ fs) ≡ Plays r = subst (λ z. hostile.carry play k h u s z ≡ Plays r) i e in j

    came : (b : Bool) (s : Scene) (bytes : List ℕ) → b ≡ false → hostile.frame_comes play b k h u bytes s ≡ Plays r → hostile.judged_frame play k h u bytes s (verdict (length play.script.vats) u h (counts (connected_at u h s.world.connections).tables) bytes) ≡ Plays r
    unfolding hostile.frame_comes
    came true s bytes i e = cc
    came false s bytes i e = e

    judged : (x : Verdict) (s : Scene) (bytes : List ℕ) (place : ℕ) → x ≡ judge.Malformed place → hostile.judged_frame play k h u bytes s x ≡ Plays r → hostile.malformed play k h u place s ≡ Plays r
    unfolding hostile.judged_frame
    judged x s bytes place i e = let j : hostile.judged_frame play k h u bytes s (judge.Malformed place) ≡ Plays r = subst (λ z. hostile.judged_frame play k h u bytes s z ≡ Plays r) i e in j

    severed_is : (s : Scene) (place : ℕ) (half run : Run) → hostile.severed_by play k h u place s half run ≡ Plays r → run ≡ Going r.world
    unfolding hostile.severed_by
    severed_is s place half (Going z) e = ap (λ (x : Scene). Going x.world) (plays_is _ r e)
    severed_is s place half (Stopped c n z) e = cc

    after_cut : (half : Run) → hostile.noticed_after play k h u half ≡ Going r.world → (y : World) × (half ≡ Going y) × (world.step play.script (NoticeLink u h) k y ≡ Going r.world)
    unfolding hostile.noticed_after
    after_cut (Going y) e = (y, refl, e)
    after_cut (Stopped c n y) e = cc

    cut_keeps : (w y : World) → world.cut play.script k h u w ≡ Going y → w.vats ≡ y.vats
    unfolding world.cut
    cut_keeps w y e = gone _ y e
      where
        gone : (x y : World) → Going x ≡ Going y → x.vats ≡ y.vats
        gone x y e = let same : x ≡ y = cc in ap (λ (z : World). z.vats) same

    malformed_is : (s : Scene) (place : ℕ) → hostile.malformed play k h u place s ≡ Plays r → (y : World) × (s.world.vats ≡ y.vats) × (world.step play.script (NoticeLink u h) k y ≡ Going r.world)
    unfolding hostile.malformed
    malformed_is s place e = let c = after_cut (world.cut play.script k h u s.world) (severed_is s place _ _ e) in (c.0, cut_keeps s.world c.0 c.1, c.2)

    frame_is : (s : Scene) (bytes : List ℕ) (fs : List (List ℕ)) (place : ℕ) → IsHostile play h → (IsHostile play u → ⊥) → frames_at h u s.raws ≡ bytes ∷ fs → verdict (length play.script.vats) u h (counts (connected_at u h s.world.connections).tables) bytes ≡ judge.Malformed place
        → hostile.does play (Does (Carry h u)) k s ≡ Plays r → (y : World) × (s.world.vats ≡ y.vats) × (world.step play.script (NoticeLink u h) k y ≡ Going r.world)
    unfolding hostile.does hostile.tries
    frame_is s bytes fs place bad o i v e = malformed_is _ place (judged _ _ bytes place v (came (is_hostile play u) _ bytes (honest_is (is_hostile play u) o) (framed (frames_at h u s.raws) s bytes fs i (carried (is_hostile play h) s bad (plays_on s r _ e)))))

pub notices_break_in_plays : NoticesBreakInPlays
notices_break_in_plays play h bad v w o s r t k j ds e f = breaks_on play h bad ds j r t f v w k s.world (notice_is play k v w s r o e)

pub malformed_frames_break : MalformedFramesBreak
malformed_frames_break play h u bad o s r t k j ds bytes fs place i v e f a here near = let c = frame_is play k h u r s bytes fs place bad o i v e in
    breaks_on play h bad ds j r t f u h k c.0 c.2 a (subst (λ vs. slice_get vs u ≡ Some a) c.1 here) near
