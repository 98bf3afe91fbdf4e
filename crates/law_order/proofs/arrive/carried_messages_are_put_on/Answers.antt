use Rattle.law_order.proofs.Ordering.Arrived.{carried_messages_are_put_on}
use Rattle.law_order.proofs.arrive.carried_messages_are_put_on.Goals as goal

pub returns : goal.returns
returns c = carried_messages_are_put_on
