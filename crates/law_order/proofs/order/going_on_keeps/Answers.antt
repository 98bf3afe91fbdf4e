use Rattle.law_order.proofs.Ordering.Changes.{going_on_keeps}
use Rattle.law_order.proofs.order.going_on_keeps.Goals as goal

pub returns : goal.returns
returns c = going_on_keeps
