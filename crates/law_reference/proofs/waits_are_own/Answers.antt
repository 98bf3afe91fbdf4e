use Rattle.law_reference.proofs.OwnWaits.Runs.{waits_in_runs}
use Rattle.law_reference.proofs.waits_are_own.Goals as goal

pub returns : goal.returns
returns c = waits_in_runs
