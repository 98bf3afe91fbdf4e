use Rattle.law_fate.proofs.Fates.RunWell.{runs_stay_well}
use Rattle.law_fate.proofs.fate.runs_stay_well.Goals as goal

pub returns : goal.returns
returns c = runs_stay_well
