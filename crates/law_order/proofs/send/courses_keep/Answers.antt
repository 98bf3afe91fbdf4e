use Rattle.law_order.proofs.Ordering.OrderSendKeeping.{courses_keep}
use Rattle.law_order.proofs.send.courses_keep.Goals as goal

pub returns : goal.returns
returns c = courses_keep
