use Rattle.law_order.proofs.Ordering.Sendings.{delivering_grows}
use Rattle.law_order.proofs.send.delivering_grows.Goals as goal

pub returns : goal.returns
returns c = delivering_grows
