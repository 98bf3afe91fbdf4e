use Rattle.law_frame.proofs.Stopping.Entries.{entries_stop_taken}
use Rattle.law_frame.proofs.stops.stops_are_taken_in_numbers.Goals as goal

pub returns : goal.returns
returns c = entries_stop_taken
