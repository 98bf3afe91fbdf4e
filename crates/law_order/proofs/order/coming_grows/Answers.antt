use Rattle.law_order.proofs.Ordering.Coming.{coming_grows}
use Rattle.law_order.proofs.order.coming_grows.Goals as goal

pub returns : goal.returns
returns c = coming_grows
