-- The activations of every step are new.
use Rattle.std.proofs.Common.{◌≡◌, ℕ, List, [], ◌≤◌, map, sym, subst, arith}
use Rattle.def_machine.specs.Values.{Naming}
use Rattle.def_machine.specs.State.{Vat, Happened, Done, Gives}
use Rattle.law_machine.specs.Machine.Steps.{Step, Opens, Takes, Receives, Notices, does, After}
use Rattle.law_uses.specs.Connectivity.Activations.{begun_by, Rises, StepsCount}
use Rattle.law_uses.proofs.Connectivity.Counts.{CountsBy, counts_whole, Counts, Ends}
use Rattle.law_machine.proofs.Machine.Whole.{whole_opening, whole_taking, whole_arrive, whole_notice}

no_more : (n : ℕ) → n ≤ n
no_more n = omega arith

module _ {N W : Type 0} (K : Naming N W) where
  step_counts : (low : ℕ) (step : Step N W) → Counts low (does K step)
  unfolding does
  step_counts low (Opens tree depth root given) = whole_opening (CountsBy low) K (counts_whole K low) tree depth root given
  step_counts low (Takes tree depth m) = whole_taking (CountsBy low) K (counts_whole K low) tree depth m
  step_counts low (Receives from n) = whole_arrive (CountsBy low) K (counts_whole K low) from n
  step_counts low (Notices w) = whole_notice (CountsBy low) K (counts_whole K low) w

  from_none : {A : Type 0} (s : Vat N) (d : Done N A) → Ends s.activations d → After (λ s t. Rises s.activations (map begun_by t.happened) t.activations) s d
  from_none s (Gives a t) h = h
  from_none s other h = h

  at_first : (s : Vat N) → s.happened ≡ [] → Rises s.activations (map begun_by s.happened) s.activations
  at_first s e = subst (λ (es : List (Happened N)). Rises s.activations (map begun_by es) s.activations) (sym e) (no_more s.activations)

  pub steps_count : StepsCount K
  steps_count step s e = from_none s (does K step s) ((step_counts s.activations step).after s (at_first s e))
