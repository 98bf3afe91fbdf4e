use Rattle.law_order.proofs.Ordering.FoundPlaces.{nowhere_is_doomed}
use Rattle.law_order.proofs.message.nowhere_is_doomed.Goals as goal

pub returns : goal.returns
returns c = nowhere_is_doomed
