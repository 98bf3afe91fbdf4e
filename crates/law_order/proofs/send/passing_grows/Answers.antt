use Rattle.law_order.proofs.Ordering.Sendings.{passing_grows}
use Rattle.law_order.proofs.send.passing_grows.Goals as goal

pub returns : goal.returns
returns c = passing_grows
