use Rattle.law_order.proofs.Ordering.OrderPassing.{settled_is_passed}
use Rattle.law_order.proofs.settle.settled_names_are_passed.Goals as goal

pub returns : goal.returns
returns c = settled_is_passed
