use Rattle.law_order.proofs.Ordering.Messages.{lost_is_nowhere}
use Rattle.law_order.proofs.message.lost_is_nowhere.Goals as goal

pub returns : goal.returns
returns c = lost_is_nowhere
