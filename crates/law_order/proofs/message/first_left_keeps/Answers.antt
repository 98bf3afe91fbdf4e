use Rattle.law_order.proofs.Ordering.Leavings.{first_left_keeps}
use Rattle.law_order.proofs.message.first_left_keeps.Goals as goal

pub returns : goal.returns
returns c = first_left_keeps
