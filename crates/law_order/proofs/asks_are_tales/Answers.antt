use Rattle.law_order.proofs.AskTales.AskTales.{asks_are_tales}
use Rattle.law_order.proofs.asks_are_tales.Goals as goal

pub returns : goal.returns
returns c = asks_are_tales
