use Rattle.law_frame.proofs.Stopping.Converse.{stops_of_vats}
use Rattle.law_frame.proofs.stops.stops_are_of_vats.Goals as goal

pub returns : goal.returns
returns c = stops_of_vats
