use Rattle.law_hostile.proofs.Stays.{runs_name_their_ends}
use Rattle.law_hostile.proofs.hostile.runs_name_their_ends.Goals as goal

pub returns : goal.returns
returns c = runs_name_their_ends
