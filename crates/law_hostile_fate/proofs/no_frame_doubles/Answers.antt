use Rattle.law_hostile_fate.proofs.Ends.{no_frame_doubles}
use Rattle.law_hostile_fate.proofs.no_frame_doubles.Goals as goal

pub returns : goal.returns
returns c = no_frame_doubles
