use Rattle.law_order.proofs.OpenTales.Laws.{opens_are_tales}
use Rattle.law_order.proofs.opens_are_tales.Goals as goal

pub returns : goal.returns
returns c = opens_are_tales
