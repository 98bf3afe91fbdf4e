use Rattle.def_machine.specs.Values.{naming, numbering}
use Rattle.law_uses.proofs.Connectivity.StepNests.{steps_nest}
use Rattle.law_uses.proofs.connected.calls_nest.Goals as goal

pub returns : goal.returns
returns c = (λ word v step s e. steps_nest (naming word v) step s e, λ word step s e. steps_nest (numbering word) step s e)
