use Rattle.law_trace.proofs.Told.Placed.{in_place}
use Rattle.law_trace.proofs.lines_are_in_place.Goals as goal

pub returns : goal.returns
returns c = in_place
