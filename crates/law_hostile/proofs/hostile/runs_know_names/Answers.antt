use Rattle.law_hostile.proofs.Stays.{runs_know_names}
use Rattle.law_hostile.proofs.hostile.runs_know_names.Goals as goal

pub returns : goal.returns
returns c = runs_know_names
