use Rattle.law_order.proofs.Asks.Wishes.{shortens_are_true}
use Rattle.law_order.proofs.shortens_are_true.Goals as goal

pub returns : goal.returns
returns c = shortens_are_true
