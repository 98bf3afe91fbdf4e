use Rattle.law_order.proofs.Ordering.Messages.{comers_are_behind}
use Rattle.law_order.proofs.message.comers_are_behind.Goals as goal

pub returns : goal.returns
returns c = comers_are_behind
