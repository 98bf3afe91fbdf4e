use Rattle.law_frame.proofs.Stopping.Entries.{entries_stop}
use Rattle.law_frame.proofs.stops.stops_by_numbers.Goals as goal

pub returns : goal.returns
returns c = entries_stop
