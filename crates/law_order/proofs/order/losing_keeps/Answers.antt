use Rattle.law_order.proofs.Ordering.Changes.{losing_keeps}
use Rattle.law_order.proofs.order.losing_keeps.Goals as goal

pub returns : goal.returns
returns c = losing_keeps
