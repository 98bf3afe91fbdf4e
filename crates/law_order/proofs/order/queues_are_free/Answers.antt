use Rattle.law_order.proofs.Ordering.Queues.{queues_are_free}
use Rattle.law_order.proofs.order.queues_are_free.Goals as goal

pub returns : goal.returns
returns c = queues_are_free
