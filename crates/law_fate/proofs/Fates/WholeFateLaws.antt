-- The laws of whole fates, over runs.
use Rattle.std.proofs.Common.{◌≡◌, ℕ, zero, suc, ◌+◌, ◌≤◌, List, [], ◌∷◌, ◌++◌, Some, refl, sym, ◌∙◌, inl, inr, length, append-nil, append_assoc, subst, arith, Bool, false}
use Rattle.std.specs.Prelude.{slice_get}
use Rattle.def_machine.specs.Values.{Name, Root}
use Rattle.def_run.specs.World as world
use Rattle.def_run.specs.World.{Script, Program, Entry, Ends, Link, World, Run, Goes, Stopped, begins}
use Rattle.law_fate.specs.Name.Names.{IsAmong, NoteOk}
use Rattle.law_fate.specs.Name.Runs.{KnowsOnce}
use Rattle.law_fate.proofs.Name.Among.{all_among, length_end}
use Rattle.law_fate.proofs.Name.Run.{Told, LinkStands, Stands, begins_stands, open_stands, step_stands, opened_stands, steps_stand}
use Rattle.law_fate.proofs.Name.Laws.{in_each}
use Rattle.law_fate.specs.Fates.Fate.{places, sent_by, sent, took_by, takes, lost_by, losses, left_by, leavings, fates}
use Rattle.law_fate.specs.Fates.Lasting.{Each, NoteWell}
use Rattle.law_fate.specs.Fates.Wellness.{WorldWell}
use Rattle.law_fate.proofs.Fates.RunCounts.{numbered_once}
use Rattle.law_fate.proofs.Fates.RunAccount.{Fated, step_fated, open_fated}
use Rattle.law_fate.proofs.Fates.RunFates.{begins_fated, goes_fated, closing, none_vats, none_links, vats_listed, links_listed}
use Rattle.law_fate.proofs.Fates.RunWell.{begins_well, open_well, step_well, goes_well, runs_stay_well}
use Rattle.law_fate.specs.Fates.Steps.{ViewsEndInRuns, OfEachStep, Finds, StepsFindPlaces}
use Rattle.law_fate.specs.Fates.WholeFateRuns.{KnowsVats, StepPutsToVats, NotesGoToVats, NotesGoToVatsOfTheRun, EachMessageHasAFate, ExactlyOneFate}
use Rattle.law_fate.proofs.Fates.ViewsEnd.{views_end}
use Rattle.law_fate.proofs.Fates.WholeSteps.{opens_find, takes_find, note_finds, notices_find, opens_put, takes_put, note_put, notices_put}
use Rattle.law_fate.proofs.Fates.RunWhole.{Kept, begins_kept, step_kept, open_kept}

pub views_end_in_runs : ViewsEndInRuns
views_end_in_runs = in_each _ (λ script w v s e h word. let k = h.kept in views_end word v s k.apart k.views)

-- ---- every step

each_among : {A : Type 0} (P : A → Type 0) (xs : List A) (x : A) → Each P xs → IsAmong x xs → P x
each_among P [] x h i = absurd i
each_among P (y ∷ ys) x h (inl e) = rw (sym e) at h.0
each_among P (y ∷ ys) x h (inr i) = each_among P ys x h.1 i

finds_each : (script : Script) (w : World) → Stands script w → WorldWell w → OfEachStep script w (Finds script)
finds_each script w h g v s e = (
  λ p i cut x. opens_find script w h g v s e cut x p i,
  λ m ms i cut x. takes_find script w h g v s e cut x m ms i,
  λ from l n i j cut x. note_finds script w h g v s e cut x from n (all_among (NoteOk (Told script w)) l.notes n (all_among (LinkStands script w) w.links l h.links i) j)
      (each_among NoteWell l.notes n (each_among (λ (k : Link). Each NoteWell k.notes) w.links l g.links i) j),
  λ u cut x. notices_find script w h g v s e cut x u,
)

pub steps_find_places : StepsFindPlaces
steps_find_places script once = (
  λ ps rest w e opened. let well = runs_stay_well script in finds_each script w (opened_stands script once ps rest w e opened) (goes_well (world.open_from script zero ps (begins script)) w opened (well.0 ps)),
  λ w y es k opened stepped. let well = runs_stay_well script in
      finds_each script y (steps_stand script es k w y (opened_stands script once script.vats [] w (sym (append-nil script.vats)) opened) stepped) (goes_well (world.steps_from script es k w) y stepped (well.1 w es k opened)),
)

puts_each : (script : Script) → KnowsVats script → (w : World) → Stands script w → WorldWell w → OfEachStep script w (StepPutsToVats script)
puts_each script knows w h g v s e = let cut : ℕ → Bool = λ u. false in let x : Name = Root 0 in (
  λ p i. opens_put script w h g v s e cut x knows p i,
  λ m ms i. takes_put script w h g v s e cut x knows m ms i,
  λ from l n i j. note_put script w h g v s e cut x knows from n (all_among (NoteOk (Told script w)) l.notes n (all_among (LinkStands script w) w.links l h.links i) j),
  λ u. notices_put script w h g v s e cut x knows u,
)

pub notes_go_to_vats_of_the_run : NotesGoToVatsOfTheRun
notes_go_to_vats_of_the_run script once knows = (
  λ ps rest w e opened. let well = runs_stay_well script in puts_each script knows w (opened_stands script once ps rest w e opened) (goes_well (world.open_from script zero ps (begins script)) w opened (well.0 ps)),
  λ w y es k opened stepped. let well = runs_stay_well script in
      puts_each script knows y (steps_stand script es k w y (opened_stands script once script.vats [] w (sym (append-nil script.vats)) opened) stepped) (goes_well (world.steps_from script es k w) y stepped (well.1 w es k opened)),
)

-- ---- runs

same_world : (w y : World) → Goes w ≡ Goes y → w ≡ y
same_world w y e = cc

-- what goes on from where it went
chain : (r : Run) (f g : World → Run) (w z : World) → world.then_goes r f ≡ Goes w → ((u : World) → f u ≡ Goes w → g u ≡ Goes z) → world.then_goes r g ≡ Goes z
unfolding world.then_goes
chain (Goes u) f g w z e h = h u e
chain (Stopped c k u) f g w z e h = cc

through : (C : Type 0) (r : Run) (f : World → Run) (y : World) → world.then_goes r f ≡ Goes y → ((z : World) → r ≡ Goes z → f z ≡ Goes y → C) → C
unfolding world.then_goes
through C (Goes z) f y e h = h z refl e
through C (Stopped c k z) f y e h = cc

then_ends : (r : Run) (f : World → Run) (z : World) → r ≡ Goes z → f z ≡ Goes z → world.then_goes r f ≡ Goes z
unfolding world.then_goes
then_ends (Goes u) f z e g = let same : u ≡ z = cc in subst (λ y. f y ≡ Goes z) (sym same) g
then_ends (Stopped c k u) f z e g = cc

module _ (script : Script) where
  opens_append : (v : ℕ) (front : List Program) (p : Program) (u w z : World) → world.open_from script v front u ≡ Goes w → world.open_vat script (v + length front) p w ≡ Goes z → world.open_from script v (front ++ p ∷ []) u ≡ Goes z
  unfolding world.open_from
  opens_append v [] p u w z e g = let i : v + zero ≡ v = omega arith in then_ends (world.open_vat script v p u) (λ y. Goes y) z (rw (i, sym (same_world u w e)) at g) refl
  opens_append v (q ∷ front) p u w z e g = let i : v + suc (length front) ≡ suc v + length front = omega arith in
      chain (world.open_vat script v q u) (world.open_from script (suc v) front) (world.open_from script (suc v) (front ++ p ∷ [])) w z e (λ y j. opens_append (suc v) front p y w z j (rw i at g))

  steps_append : (es : List Entry) (k : ℕ) (entry : Entry) (u w z : World) → world.steps_from script es k u ≡ Goes w → world.step script entry (k + length es) w ≡ Goes z → world.steps_from script (es ++ entry ∷ []) k u ≡ Goes z
  unfolding world.steps_from
  steps_append [] k entry u w z e g = let i : k + zero ≡ k = omega arith in then_ends (world.step script entry k u) (λ y. Goes y) z (rw (i, sym (same_world u w e)) at g) refl
  steps_append (first ∷ es) k entry u w z e g = let i : k + suc (length es) ≡ suc k + length es = omega arith in
      chain (world.step script first k u) (world.steps_from script es (suc k)) (world.steps_from script (es ++ entry ∷ []) (suc k)) w z e (λ y j. steps_append es (suc k) entry y w z j (rw i at g))

  module _ (once : KnowsOnce script) (puts : NotesGoToVats script) (x : Name) where
    -- what holds in every world of the run
    record Stood (w : World) : Type 0 where
      stands : Stands script w
      well : WorldWell w
      fated : Fated x w
      kept : Kept script x 0 w

    moved : (w y : World) → Stood w → Goes w ≡ Goes y → Stood y
    moved w y h e = rw (same_world w y e) at h

    step_stood : (entry : Entry) (k : ℕ) (w y : World) → Stood w → OfEachStep script w (StepPutsToVats script) → world.step script entry k w ≡ Goes y → Stood y
    step_stood entry k w y h p e = let f = h.fated in record {
      stands = step_stands script entry k w y h.stands e;
      well = goes_well (world.step script entry k w) y e (step_well script entry k w h.well);
      fated = goes_fated x script (world.step script entry k w) y e (step_fated x script entry k w h.fated);
      kept = step_kept script x w (finds_each script w h.stands h.well) p h.kept entry k y f.apart e;
    }

    open_stood : (v : ℕ) (p : Program) (w y : World) → slice_get script.vats v ≡ Some p → Stood w → OfEachStep script w (StepPutsToVats script) → world.open_vat script v p w ≡ Goes y → Stood y
    unfolding world.open_vat
    open_stood v p w y t h g e = record {
      stands = open_stands script v p w y t h.stands (slice_get w.vats v) refl e;
      well = goes_well (world.open_vat script v p w) y e (open_well script v p w (slice_get w.vats v) refl h.well);
      fated = goes_fated x script (world.open_vat script v p w) y e (open_fated x script v p w (slice_get w.vats v) refl h.fated);
      kept = open_kept script x w (finds_each script w h.stands h.well) g h.kept v p y (slice_get w.vats v) t refl e;
    }

    begins_stood : Stood (begins script)
    begins_stood = record { stands = begins_stands script once; well = begins_well script; fated = begins_fated x script; kept = begins_kept script x }

    program_at : (front : List Program) (p : Program) (ps : List Program) → slice_get (front ++ p ∷ ps) (length front) ≡ Some p
    program_at [] p ps = refl
    program_at (q ∷ front) p ps = program_at front p ps

    opens_stood : (front ps rest : List Program) (w y : World) → script.vats ≡ front ++ (ps ++ rest) → world.open_from script zero front (begins script) ≡ Goes w → Stood w → world.open_from script (length front) ps w ≡ Goes y → Stood y
    unfolding world.open_from
    opens_stood front [] rest w y e opened h g = moved w y h g
    opens_stood front (p ∷ ps) rest w y e opened h g = let there : slice_get script.vats (length front) ≡ Some p = rw (sym e) at (program_at front p (ps ++ rest)) in let none : length front ≡ zero + length front = omega arith in
        through (Stood y) (world.open_vat script (length front) p w) (world.open_from script (suc (length front)) ps) y g (λ z i j.
        opens_stood (front ++ p ∷ []) ps rest z y (e ∙ sym (append_assoc front (p ∷ []) (ps ++ rest))) (opens_append zero front p (begins script) w z opened (subst (λ n. world.open_vat script n p w ≡ Goes z) none i))
        (open_stood (length front) p w z there h (puts.0 front (p ∷ (ps ++ rest)) w e opened) i) (rw (sym (length_end front p)) at j))

    steps_stood : (k : ℕ) (u : World) → world.open_from script zero script.vats (begins script) ≡ Goes u → (done es : List Entry) (w y : World) → world.steps_from script done k u ≡ Goes w → Stood w → world.steps_from script es (k + length done) w ≡ Goes y → Stood y
    unfolding world.steps_from
    steps_stood k u opened done [] w y e h g = moved w y h g
    steps_stood k u opened done (entry ∷ es) w y e h g = let l = length_end done entry in let i : suc (k + length done) ≡ k + length (done ++ entry ∷ []) = omega arith in
        through (Stood y) (world.step script entry (k + length done) w) (world.steps_from script es (suc (k + length done))) y g (λ z f j.
        steps_stood k u opened (done ++ entry ∷ []) es z y (steps_append done k entry u w z e f) (step_stood entry (k + length done) w z h (puts.1 u w done k opened e) f) (rw i at j))

    opened_stood : (ps rest : List Program) (w : World) → script.vats ≡ ps ++ rest → world.open_from script zero ps (begins script) ≡ Goes w → Stood w
    unfolding world.open_from
    opened_stood ps rest w e opened = opens_stood [] ps rest (begins script) w e (nothing_opened (begins script)) begins_stood opened
      where
        nothing_opened : (w : World) → world.open_from script zero [] w ≡ Goes w
        nothing_opened w = refl

    stepped_stood : (w y : World) (es : List Entry) (k : ℕ) → world.open_from script zero script.vats (begins script) ≡ Goes w → world.steps_from script es k w ≡ Goes y → Stood y
    unfolding world.steps_from
    stepped_stood w y es k opened stepped = let i : k ≡ k + zero = omega arith in
        steps_stood k w opened [] es w y (nothing_done w) (opened_stood script.vats [] w (sym (append-nil script.vats)) opened) (rw i at stepped)
      where
        nothing_done : (w : World) → world.steps_from script [] k w ≡ Goes w
        nothing_done w = refl

    exact : (w : World) → Stood w → places x w + fates x w.history ≡ sent x w.history
    unfolding fates
    exact w h = let f = h.fated in let a = f.kept in let b = f.unlisted in let k = h.kept in let c = k.kept in omega arith

    closed_exact : (w : World) → Stood w → (fates x (w.history ++ world.left_vats script w.vats ++ world.left_links script w.links ++ Ends ∷ []) ≡ sent x (w.history ++ world.left_vats script w.vats ++ world.left_links script w.links ++ Ends ∷ []))
        × (sent x (w.history ++ world.left_vats script w.vats ++ world.left_links script w.links ++ Ends ∷ []) ≤ 1)
    unfolding fates sent takes losses leavings places sent_by took_by lost_by left_by
    closed_exact w h =
        let fated = h.fated in let k = fated.kept in let u = fated.unlisted in let f = fated.fresh in let counted = h.kept in let kept = counted.kept in let most = numbered_once x 0 w.vats in
        let a = closing x script (sent_by x) refl w in let b = closing x script (took_by x) refl w in let c = closing x script (lost_by x) refl w in let d = closing x script (left_by x) refl w in
        let a1 = none_vats x script (sent_by x) (λ v m. refl) (λ v n m. refl) (λ v n m. refl) (λ v u n. refl) w.vats in let a2 = none_links x script (sent_by x) (λ v m. refl) (λ v n m. refl) (λ v n m. refl) (λ v u n. refl) w.links in
        let b1 = none_vats x script (took_by x) (λ v m. refl) (λ v n m. refl) (λ v n m. refl) (λ v u n. refl) w.vats in let b2 = none_links x script (took_by x) (λ v m. refl) (λ v n m. refl) (λ v n m. refl) (λ v u n. refl) w.links in
        let c1 = none_vats x script (lost_by x) (λ v m. refl) (λ v n m. refl) (λ v n m. refl) (λ v u n. refl) w.vats in let c2 = none_links x script (lost_by x) (λ v m. refl) (λ v n m. refl) (λ v n m. refl) (λ v u n. refl) w.links in
        let d1 = vats_listed x script w.vats in let d2 = links_listed x script w.links in (omega arith, omega arith)

    close_exact : (w y : World) → Stood w → world.close script w ≡ Goes y → (fates x y.history ≡ sent x y.history) × (sent x y.history ≤ 1)
    unfolding world.close
    close_exact w y h e = let same = same_world (record w { history = w.history ++ world.left_vats script w.vats ++ world.left_links script w.links ++ Ends ∷ [] }) y e in subst (λ (r : World). (fates x r.history ≡ sent x r.history) × (sent x r.history ≤ 1)) same (closed_exact w h)

    run_exact : (y : World) → world.run script ≡ Goes y → (fates x y.history ≡ sent x y.history) × (sent x y.history ≤ 1)
    unfolding world.run
    run_exact y e = through ((fates x y.history ≡ sent x y.history) × (sent x y.history ≤ 1)) (world.open_from script zero script.vats (begins script)) (λ w. world.then_goes (world.steps_from script script.schedule 1 w) (world.close script)) y e (λ w opened i.
        through ((fates x y.history ≡ sent x y.history) × (sent x y.history ≤ 1)) (world.steps_from script script.schedule 1 w) (world.close script) y i (λ z stepped j.
        close_exact z y (stepped_stood w z script.schedule 1 opened stepped) j))

pub each_message_has_a_fate : EachMessageHasAFate
each_message_has_a_fate script once knows x = let puts = notes_go_to_vats_of_the_run script once knows in (
  λ ps rest w e opened. exact script once puts x w (opened_stood script once puts x ps rest w e opened),
  λ w y es k opened stepped. exact script once puts x y (stepped_stood script once puts x w y es k opened stepped),
)

pub exactly_one_fate : ExactlyOneFate
exactly_one_fate script once knows x y e = run_exact script once (notes_go_to_vats_of_the_run script once knows) x y e
