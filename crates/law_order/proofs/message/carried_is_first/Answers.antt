use Rattle.law_order.proofs.Ordering.Leavings.{carried_is_first}
use Rattle.law_order.proofs.message.carried_is_first.Goals as goal

pub returns : goal.returns
returns c = carried_is_first
