use Rattle.law_order.proofs.AskTales.Shortens.{shortens_are_tales}
use Rattle.law_order.proofs.shortens_are_tales.Goals as goal

pub returns : goal.returns
returns c = shortens_are_tales
