use Rattle.law_order.proofs.Ordering.Turned.{noticing_keeps}
use Rattle.law_order.proofs.order.noticing_keeps.Goals as goal

pub returns : goal.returns
returns c = noticing_keeps
