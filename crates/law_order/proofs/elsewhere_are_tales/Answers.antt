use Rattle.law_order.proofs.NewsTales.Laws.{elsewhere_are_tales}
use Rattle.law_order.proofs.elsewhere_are_tales.Goals as goal

pub returns : goal.returns
returns c = elsewhere_are_tales
