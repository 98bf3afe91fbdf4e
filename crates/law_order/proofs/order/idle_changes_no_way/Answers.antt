use Rattle.law_order.proofs.Ordering.Queues.{idle_changes_no_way}
use Rattle.law_order.proofs.order.idle_changes_no_way.Goals as goal

pub returns : goal.returns
returns c = idle_changes_no_way
