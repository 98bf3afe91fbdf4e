use Rattle.law_order.proofs.Ordering.Resolving.{settled_courses_keep}
use Rattle.law_order.proofs.settle.settled_courses_keep.Goals as goal

pub returns : goal.returns
returns c = settled_courses_keep
