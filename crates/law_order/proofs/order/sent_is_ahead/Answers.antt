use Rattle.law_order.proofs.Ordering.Changes.{sent_is_ahead}
use Rattle.law_order.proofs.order.sent_is_ahead.Goals as goal

pub returns : goal.returns
returns c = sent_is_ahead
