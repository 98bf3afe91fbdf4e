use Rattle.law_order.proofs.Ordering.FoundPlaces.{queues_tell_order}
use Rattle.law_order.proofs.message.queues_tell_order.Goals as goal

pub returns : goal.returns
returns c = queues_tell_order
