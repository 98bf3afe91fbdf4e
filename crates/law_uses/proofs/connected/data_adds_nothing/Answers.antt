use Rattle.def_machine.specs.Values.{naming, numbering}
use Rattle.law_uses.proofs.Connectivity.Natives.{answers_known}
use Rattle.law_uses.proofs.connected.data_adds_nothing.Goals as goal

pub returns : goal.returns
returns c = (λ word v h so a y verb held args i j k. answers_known (naming word v) h so a y verb held args i j k, λ word h so a y verb held args i j k. answers_known (numbering word) h so a y verb held args i j k)
