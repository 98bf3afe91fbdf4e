use Rattle.law_frame.proofs.Stopping.Converse.{numbers_stop}
use Rattle.law_frame.proofs.stops.stops_in_numbers_stop.Goals as goal

pub returns : goal.returns
returns c = numbers_stop
