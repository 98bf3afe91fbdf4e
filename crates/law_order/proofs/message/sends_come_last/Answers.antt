use Rattle.law_order.proofs.Ordering.Comings.{sends_come_last}
use Rattle.law_order.proofs.message.sends_come_last.Goals as goal

pub returns : goal.returns
returns c = sends_come_last
