use Rattle.law_order.proofs.Ordering.Leavings.{taken_is_first}
use Rattle.law_order.proofs.message.taken_is_first.Goals as goal

pub returns : goal.returns
returns c = taken_is_first
