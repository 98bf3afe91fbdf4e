use Rattle.law_order.proofs.Ordering.FoundPlaces.{held_come_in_order}
use Rattle.law_order.proofs.message.held_come_in_order.Goals as goal

pub returns : goal.returns
returns c = held_come_in_order
