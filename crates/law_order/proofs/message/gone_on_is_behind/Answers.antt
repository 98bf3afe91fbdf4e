use Rattle.law_order.proofs.Ordering.Messages.{gone_on_is_behind}
use Rattle.law_order.proofs.message.gone_on_is_behind.Goals as goal

pub returns : goal.returns
returns c = gone_on_is_behind
