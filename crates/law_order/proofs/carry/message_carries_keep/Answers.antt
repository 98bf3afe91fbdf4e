use Rattle.law_order.proofs.Carries.Whole.{message_carries_keep}
use Rattle.law_order.proofs.carry.message_carries_keep.Goals as goal

pub returns : goal.returns
returns c = message_carries_keep
