use Rattle.law_order.proofs.Ordering.Turned.{cutting_keeps}
use Rattle.law_order.proofs.order.cutting_keeps.Goals as goal

pub returns : goal.returns
returns c = cutting_keeps
