use Rattle.law_order.proofs.Ordering.Messages.{places_are_one}
use Rattle.law_order.proofs.message.places_are_one.Goals as goal

pub returns : goal.returns
returns c = places_are_one
