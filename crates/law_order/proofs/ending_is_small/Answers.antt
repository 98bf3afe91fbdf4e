use Rattle.law_order.proofs.Tales.Begun.{ending_is_small}
use Rattle.law_order.proofs.ending_is_small.Goals as goal

pub returns : goal.returns
returns c = ending_is_small
