use Rattle.law_frame.proofs.Stopping.Converse.{opening_stops}
use Rattle.law_frame.proofs.stops.opening_stops_in_numbers_stop.Goals as goal

pub returns : goal.returns
returns c = opening_stops
