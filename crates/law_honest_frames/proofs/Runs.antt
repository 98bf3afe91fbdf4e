-- What holds of the next frame in each state of the run in numbers, and what follows for plays without hostile vats.
use Rattle.std.proofs.Common.{◌≡◌, ℕ, zero, suc, ◌+◌, List, [], ◌∷◌, ◌++◌, refl, sym, ap, subst, ◌∙◌, length, map, append_assoc, append-nil, arith}
use Rattle.std.specs.Prelude.{slice_get}
use Rattle.def_event.specs.Lines.{render, render_run}
use Rattle.def_machine.specs.State.{Stop}
use Rattle.def_run.specs.Numbers as numbers
use Rattle.def_run.specs.Numbers.{Vats, Course, Runs, Halts, then_runs}
use Rattle.def_run.specs.Text as run
use Rattle.def_run.specs.World as machine
use Rattle.def_run.specs.World.{Script, Entry, World, Run, Goes, Stopped, then_goes}
use Rattle.def_hostile.specs.Hostile.{Acted, Plays, Breaks, Told, acts}
use Rattle.def_hostile.specs.HostileText as names
use Rattle.def_hostile.specs.Numbers.{Performed, Performs, Ceases, performs}
use Rattle.def_hostile.specs.NumbersText as ours
use Rattle.law_machine.specs.Halting.Halted.{LeavesOf}
use Rattle.law_reference.specs.Reference.Cuts.{NoticesFollowCuts}
use Rattle.law_reference.proofs.Reference.AskHolds.{notices_front}
use Rattle.law_frame.specs.Local.Mirrors.{Mirrors, RunMirrors}
use Rattle.law_frame.specs.Local.Runs.{EachStepMirrors}
use Rattle.law_frame.proofs.Local.Runs.{openings_mirror, stepped_one}
use Rattle.law_frame.proofs.Local.Starts.{start_mirrors}
use Rattle.law_frame.proofs.Local.WholeRuns.{each_step_mirrors, whole_runs_mirror}
use Rattle.law_hostile_frame.specs.Honest as numbered
use Rattle.law_hostile_frame.specs.Honest.{honest}
use Rattle.law_hostile_frame.proofs.Whole as whole
use Rattle.law_instance.specs.Honest as named
use Rattle.law_instance.specs.Honest.{IsAccepted}
use Rattle.law_instance.proofs.Acts as acting
use Rattle.law_instance.proofs.Texts as texts
use Rattle.law_instance.proofs.Whole as instance
use Rattle.law_honest_frames.specs.Frames.{HonestFramesAreReceived, HonestPlaysAreRunsInNumbers, HonestTextsInNumbersAreRuns}
use Rattle.law_honest_frames.proofs.Next.{received_in_numbers}

-- what stands for a run in numbers that goes on
goes_of : (r : Run) (c : Course) (Y : Vats) → RunMirrors r c → c ≡ Runs Y → (y : World) × (r ≡ Goes y) × Mirrors y Y
goes_of (Goes y) (Runs Z) Y h e = let same : Z ≡ Y = cc in (y, refl, subst (Mirrors y) same h)
goes_of (Stopped c k y) (Halts d n Z) Y h e = cc
goes_of (Goes y) (Halts d n Z) Y h e = absurd h
goes_of (Stopped c k y) (Runs Z) Y h e = absurd h

length_end : {A : Type 0} (xs : List A) (x : A) → length (xs ++ x ∷ []) ≡ suc (length xs)
length_end [] x = refl
length_end (y ∷ xs) x = ap suc (length_end xs x)

next_length : {A : Type 0} (xs : List A) (x : A) → suc (1 + length xs) ≡ 1 + length (xs ++ x ∷ [])
next_length xs x = let l = length_end xs x in omega arith

runs_is : (X Y : Vats) → Runs X ≡ Runs Y → X ≡ Y
runs_is X Y e = cc

module _ (script : Script) (each : EachStepMirrors script) where
  opened_none : machine.open_from script zero [] (machine.begins script) ≡ Goes (machine.begins script)
  unfolding machine.open_from
  opened_none = refl

  opened_so : (W : Vats) → numbers.open_from script zero script.vats (numbers.begins script) ≡ Runs W → (w : World) × (machine.open_from script zero script.vats (machine.begins script) ≡ Goes w) × Mirrors w W
  opened_so W e = goes_of (machine.open_from script zero script.vats (machine.begins script)) (numbers.open_from script zero script.vats (numbers.begins script)) W
      (openings_mirror script each [] script.vats zero (machine.begins script) (numbers.begins script) refl refl opened_none (start_mirrors script)) e

  module _ (w : World) (opened : machine.open_from script zero script.vats (machine.begins script) ≡ Goes w) where
    front : (done es rest : List Entry) (x : World) (X : Vats) → script.schedule ≡ done ++ (es ++ rest) → machine.steps_from script done 1 w ≡ Goes x → Mirrors x X → (Y : Vats) → numbers.steps_from script es (1 + length done) X ≡ Runs Y
        → (y : World) × (machine.steps_from script (done ++ es) 1 w ≡ Goes y) × Mirrors y Y
    unfolding numbers.steps_from then_runs then_goes
    front done [] rest x X split stepped h Y e = (x, ap (λ ds. machine.steps_from script ds 1 w) (append-nil done) ∙ stepped, subst (Mirrors x) (runs_is X Y e) h)
    front done (d ∷ es) rest x X split stepped h Y e = by (numbers.step script d (1 + length done) X) refl e (λ z Z i k. front (done ++ d ∷ []) es rest z Z (split ∙ sym (append_assoc done (d ∷ []) (es ++ rest))) i k Y)
      where
        by : (c : Course) → numbers.step script d (1 + length done) X ≡ c → then_runs c (numbers.steps_from script es (suc (1 + length done))) ≡ Runs Y
            → ((z : World) (Z : Vats) → machine.steps_from script (done ++ d ∷ []) 1 w ≡ Goes z → Mirrors z Z → numbers.steps_from script es (1 + length (done ++ d ∷ [])) Z ≡ Runs Y → (y : World) × (machine.steps_from script ((done ++ d ∷ []) ++ es) 1 w ≡ Goes y) × Mirrors y Y)
            → (y : World) × (machine.steps_from script (done ++ d ∷ es) 1 w ≡ Goes y) × Mirrors y Y
        by (Halts f n Z) i g k = cc
        by (Runs Z) i g k =
            let m = goes_of (machine.step script d (1 + length done) x) (numbers.step script d (1 + length done) X) Z (each.entries w x X done (es ++ rest) d split opened stepped h) i in
            let one : machine.steps_from script (done ++ d ∷ []) 1 w ≡ Goes m.0 = stepped_one script done d 1 w x stepped ∙ ap (λ r. then_goes r (λ y. Goes y)) m.1 in
            let r = k m.0 Z one m.2 (subst (λ n. numbers.steps_from script es n Z ≡ Runs Y) (next_length done d) g) in
            (r.0, ap (λ ds. machine.steps_from script ds 1 w) (sym (append_assoc done (d ∷ []) es)) ∙ r.1, r.2)

    stepped_none : machine.steps_from script [] 1 w ≡ Goes w
    unfolding machine.steps_from
    stepped_none = refl

pub frames_received : HonestFramesAreReceived
frames_received script accepted es rest W X split opened stepped =
    let each = each_step_mirrors script (accepted.0, accepted.2) in
    let o = opened_so script each W opened in
    let s = front script each o.0 o.1 [] es rest o.0 W split (stepped_none script each o.0 o.1) o.2 X stepped in
    received_in_numbers script accepted.0 o.0 s.0 es 1 (notices_front script [] es rest (subst NoticesFollowCuts split accepted.2)) o.1 s.1 X s.2

pub plays_are_runs : HonestPlaysAreRunsInNumbers
plays_are_runs script accepted = whole.plays_are_runs script (frames_received script accepted)

-- ---- texts

closed_drawn : (script : Script) (X Y : Vats) → numbers.close script X ≡ Runs Y → Y.drawn ≡ X.drawn
unfolding numbers.close
closed_drawn script X Y e = ap (λ (z : Vats). z.drawn) (sym (runs_is _ Y e))

module _ (script : Script) where
  abbrev Texts : Acted → Performed → Type 0
  Texts a p = (ours.text (honest script) p ≡ names.text (honest script) a) × (ours.wire_text (honest script) p ≡ names.wire_text (honest script) a)

  -- both show the same lines where the same is drawn and told
  both_texts : (r : Run) (c : Course) (a : Acted) (p : Performed) → RunMirrors r c → named.EndsIn script r a → numbered.EndsIn script c p → Texts a p
  unfolding ours.text ours.wire_text ours.shown_cast names.text names.wire_text names.shown_scene
  both_texts (Goes y) (Runs Y) a p h (x, e, f) (made, X, g, i) =
      let drawn : X.drawn ≡ x.drawn = sym (closed_drawn script X Y g) ∙ h.drawn ∙ acting.closed_drawn script x y e in
      let lines = ap (λ ds. names.shown_lines ds [] (map Told Y.history)) drawn ∙ ap (λ es. names.shown_lines x.drawn [] (map Told es)) h.history in let ns = run.vat_names script in (
        ap (λ q. ours.text (honest script) q) i ∙ ap (λ es. render_run ns es) lines ∙ sym (ap (λ b. names.text (honest script) b) f),
        ap (λ q. ours.wire_text (honest script) q) i ∙ ap (λ es. render ns es) lines ∙ sym (ap (λ b. names.wire_text (honest script) b) f),
      )
  both_texts (Stopped c k y) (Halts d n Y) a p h (x, e, f) (made, X, g, i) =
      let drawn : X.drawn ≡ x.drawn = sym g.drawn ∙ h.2 ∙ acting.stop_drawn y x e in
      let told : X.history ≡ x.history = sym g.history ∙ h.3 ∙ acting.stop_history y x e in
      let lines = ap (λ ds. names.shown_lines ds [] (map Told X.history)) drawn ∙ ap (λ es. names.shown_lines x.drawn [] (map Told es)) told in let ns = run.vat_names script in (
        ap (λ q. ours.text (honest script) q) i ∙ ap (λ es. render_run ns es ++ (run.stop_line d n ++ 10 ∷ [])) lines ∙ ends (λ t z. render_run ns (names.shown_lines x.drawn [] (map Told x.history)) ++ (run.stop_line t z ++ 10 ∷ [])) ∙ sym (ap (λ b. names.text (honest script) b) f),
        ap (λ q. ours.wire_text (honest script) q) i ∙ ap (λ es. render ns es ++ (run.stop_line d n ++ 10 ∷ [])) lines ∙ ends (λ t z. render ns (names.shown_lines x.drawn [] (map Told x.history)) ++ (run.stop_line t z ++ 10 ∷ [])) ∙ sym (ap (λ b. names.wire_text (honest script) b) f),
      )
    where
      ends : (F : Stop → ℕ → List ℕ) → F d n ≡ F c k
      ends F = ap (λ t. F t n) (sym h.0) ∙ ap (F c) (sym h.1)
  both_texts (Goes y) (Halts d n Y) a p h e i = absurd h
  both_texts (Stopped c k y) (Runs Y) a p h e i = absurd h

pub texts_are_runs : HonestTextsInNumbersAreRuns
texts_are_runs script accepted =
    let both = both_texts script (machine.run script) (numbers.run script) (acts (honest script)) (performs (honest script)) (whole_runs_mirror script (accepted.0, accepted.2)) (instance.plays_are_runs script accepted).2 (plays_are_runs script accepted).2 in
    let theirs = texts.texts_are_runs script accepted in (both.0 ∙ theirs.0, both.1 ∙ theirs.1)
