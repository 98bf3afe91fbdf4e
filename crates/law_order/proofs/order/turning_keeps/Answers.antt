use Rattle.law_order.proofs.Ordering.Turned.{turning_keeps}
use Rattle.law_order.proofs.order.turning_keeps.Goals as goal

pub returns : goal.returns
returns c = turning_keeps
