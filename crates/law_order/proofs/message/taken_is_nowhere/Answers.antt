use Rattle.law_order.proofs.Ordering.Leavings.{taken_is_nowhere}
use Rattle.law_order.proofs.message.taken_is_nowhere.Goals as goal

pub returns : goal.returns
returns c = taken_is_nowhere
