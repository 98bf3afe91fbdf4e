use Rattle.law_order.proofs.Ordering.Changes.{growing_keeps}
use Rattle.law_order.proofs.order.growing_keeps.Goals as goal

pub returns : goal.returns
returns c = growing_keeps
