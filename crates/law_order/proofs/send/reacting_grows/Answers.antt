use Rattle.law_order.proofs.Ordering.Sendings.{reacting_grows}
use Rattle.law_order.proofs.send.reacting_grows.Goals as goal

pub returns : goal.returns
returns c = reacting_grows
