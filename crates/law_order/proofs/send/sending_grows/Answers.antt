use Rattle.law_order.proofs.Ordering.Sendings.{sending_grows}
use Rattle.law_order.proofs.send.sending_grows.Goals as goal

pub returns : goal.returns
returns c = sending_grows
