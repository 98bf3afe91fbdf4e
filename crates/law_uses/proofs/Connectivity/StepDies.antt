-- What a step makes live is dead when it ends.
use Rattle.def_machine.specs.Values.{Naming}
use Rattle.law_machine.specs.Machine.Steps.{Step, Opens, Takes, Receives, Notices, does}
use Rattle.law_uses.specs.Connectivity.Liveness.{StepsLeaveDead}
use Rattle.law_uses.proofs.Connectivity.Dies.{DiesBy, dies_whole, Dies}
use Rattle.law_machine.proofs.Machine.Whole.{whole_opening, whole_taking, whole_arrive, whole_notice}

module _ {N W : Type 0} (K : Naming N W) where
  step_dies : (step : Step N W) → Dies (does K step)
  unfolding does
  step_dies (Opens tree depth root given) = whole_opening DiesBy K (dies_whole K) tree depth root given
  step_dies (Takes tree depth m) = whole_taking DiesBy K (dies_whole K) tree depth m
  step_dies (Receives from n) = whole_arrive DiesBy K (dies_whole K) from n
  step_dies (Notices w) = whole_notice DiesBy K (dies_whole K) w

  pub steps_leave_dead : StepsLeaveDead K
  steps_leave_dead step s = (step_dies step).after s
