use Rattle.law_order.proofs.Ordering.Turned.{passing_by_keeps}
use Rattle.law_order.proofs.order.passing_by_keeps.Goals as goal

pub returns : goal.returns
returns c = passing_by_keeps
