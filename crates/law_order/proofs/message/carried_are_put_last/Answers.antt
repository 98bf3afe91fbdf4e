use Rattle.law_order.proofs.Ordering.Leavings.{carried_are_put_last}
use Rattle.law_order.proofs.message.carried_are_put_last.Goals as goal

pub returns : goal.returns
returns c = carried_are_put_last
