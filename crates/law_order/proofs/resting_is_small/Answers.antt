use Rattle.law_order.proofs.Tales.Resting.{resting_is_small}
use Rattle.law_order.proofs.resting_is_small.Goals as goal

pub returns : goal.returns
returns c = resting_is_small
