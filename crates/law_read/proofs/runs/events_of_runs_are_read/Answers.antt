use Rattle.law_read.proofs.ReadTexts.RunsRead.{events_of_runs}
use Rattle.law_read.proofs.runs.events_of_runs_are_read.Goals as goal

pub returns : goal.returns
returns c = events_of_runs
