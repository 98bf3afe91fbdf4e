use Rattle.def_machine.specs.Values.{naming, numbering}
use Rattle.law_uses.proofs.Connectivity.StepCounts.{steps_count}
use Rattle.law_uses.proofs.connected.activations_are_new.Goals as goal

pub returns : goal.returns
returns c = (λ word v step s e. steps_count (naming word v) step s e, λ word step s e. steps_count (numbering word) step s e)
