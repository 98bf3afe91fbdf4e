use Rattle.def_machine.specs.Values.{naming, numbering}
use Rattle.law_uses.proofs.Connectivity.Knowing.{knows_more, knows_later}
use Rattle.law_uses.proofs.connected.known_stays.Goals as goal

pub returns : goal.returns
returns c = (λ word v h later so more a i g k. knows_more (naming word v) later so more a i (knows_later (naming word v) h later g so a i k), λ word h later so more a i g k. knows_more (numbering word) later so more a i (knows_later (numbering word) h later g so a i k))
