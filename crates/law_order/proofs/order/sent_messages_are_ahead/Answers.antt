use Rattle.law_order.proofs.Ordering.Sends.{sent_messages_are_ahead}
use Rattle.law_order.proofs.order.sent_messages_are_ahead.Goals as goal

pub returns : goal.returns
returns c = sent_messages_are_ahead
