use Rattle.law_frozen.proofs.RunSound.{reach_in_runs}
use Rattle.law_frozen.proofs.frozen.reach_is_frozen_in_runs.Goals as goal

pub returns : goal.returns
returns c = reach_in_runs
