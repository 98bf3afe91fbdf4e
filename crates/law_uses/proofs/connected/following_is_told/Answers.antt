use Rattle.def_machine.specs.Values.{naming, numbering}
use Rattle.law_uses.proofs.Connectivity.StepTraces.{steps_follow}
use Rattle.law_uses.proofs.connected.following_is_told.Goals as goal

pub returns : goal.returns
returns c = (λ word v step s. steps_follow (naming word v) step s, λ word step s. steps_follow (numbering word) step s)
