use Rattle.def_machine.specs.Values.{naming, numbering}
use Rattle.law_uses.proofs.Connectivity.StepDies.{steps_leave_dead}
use Rattle.law_uses.proofs.connected.what_is_made_live_dies.Goals as goal

pub returns : goal.returns
returns c = (λ word v step s. steps_leave_dead (naming word v) step s, λ word step s. steps_leave_dead (numbering word) step s)
