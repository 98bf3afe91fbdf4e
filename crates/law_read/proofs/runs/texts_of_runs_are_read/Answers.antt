use Rattle.law_read.proofs.ReadTexts.RunsRead.{texts_of_runs}
use Rattle.law_read.proofs.runs.texts_of_runs_are_read.Goals as goal

pub returns : goal.returns
returns c = texts_of_runs
