use Rattle.law_order.proofs.Tales.Middle.{growing_is_small}
use Rattle.law_order.proofs.growing_is_small.Goals as goal

pub returns : goal.returns
returns c = growing_is_small
