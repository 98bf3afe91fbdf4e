use Rattle.law_order.proofs.Ordering.OrderSendKeeping.{grown_keeps}
use Rattle.law_order.proofs.send.grown_keeps.Goals as goal

pub returns : goal.returns
returns c = grown_keeps
