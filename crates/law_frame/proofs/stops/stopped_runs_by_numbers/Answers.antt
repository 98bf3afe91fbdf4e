use Rattle.law_frame.proofs.Stopping.StoppedRuns.{stopped_runs}
use Rattle.law_frame.proofs.stops.stopped_runs_by_numbers.Goals as goal

pub returns : goal.returns
returns c = stopped_runs
