use Rattle.law_order.proofs.Ordering.Comings.{carried_come_last}
use Rattle.law_order.proofs.message.carried_come_last.Goals as goal

pub returns : goal.returns
returns c = carried_come_last
