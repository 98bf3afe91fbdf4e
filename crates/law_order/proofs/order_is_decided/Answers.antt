use Rattle.law_order.proofs.Rows.Decided.{order_is_decided}
use Rattle.law_order.proofs.order_is_decided.Goals as goal

pub returns : goal.returns
returns c = order_is_decided
