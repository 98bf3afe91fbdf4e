use Rattle.law_order.proofs.Ordering.Changes.{taking_keeps}
use Rattle.law_order.proofs.order.taking_keeps.Goals as goal

pub returns : goal.returns
returns c = taking_keeps
