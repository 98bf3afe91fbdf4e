use Rattle.law_order.proofs.Ordering.FoundPlaces.{found_places_keep}
use Rattle.law_order.proofs.message.found_places_keep.Goals as goal

pub returns : goal.returns
returns c = found_places_keep
