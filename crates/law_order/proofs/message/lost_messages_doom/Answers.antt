use Rattle.law_order.proofs.Ordering.FoundPlaces.{lost_messages_doom}
use Rattle.law_order.proofs.message.lost_messages_doom.Goals as goal

pub returns : goal.returns
returns c = lost_messages_doom
