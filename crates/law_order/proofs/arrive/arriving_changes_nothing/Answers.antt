use Rattle.law_order.proofs.Ordering.OrderKeeping.{arriving_changes_nothing}
use Rattle.law_order.proofs.arrive.arriving_changes_nothing.Goals as goal

pub returns : goal.returns
returns c = arriving_changes_nothing
