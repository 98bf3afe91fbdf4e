use Rattle.law_order.proofs.SettledTales.Laws.{settled_carries_are_tales}
use Rattle.law_order.proofs.settled_carries_are_tales.Goals as goal

pub returns : goal.returns
returns c = settled_carries_are_tales
