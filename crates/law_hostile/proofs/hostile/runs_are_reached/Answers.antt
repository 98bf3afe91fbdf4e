use Rattle.law_hostile.proofs.Ends.{runs_are_reached}
use Rattle.law_hostile.proofs.hostile.runs_are_reached.Goals as goal

pub returns : goal.returns
returns c = runs_are_reached
