use Rattle.law_frame.proofs.Stopping.Openings.{openings_stop}
use Rattle.law_frame.proofs.stops.opening_turns_stop_by_numbers.Goals as goal

pub returns : goal.returns
returns c = openings_stop
