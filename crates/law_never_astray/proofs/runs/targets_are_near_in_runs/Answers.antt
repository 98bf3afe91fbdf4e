use Rattle.law_never_astray.proofs.NearRuns.{targets_are_near_in_runs}
use Rattle.law_never_astray.proofs.runs.targets_are_near_in_runs.Goals as goal

pub returns : goal.returns
returns c = targets_are_near_in_runs
