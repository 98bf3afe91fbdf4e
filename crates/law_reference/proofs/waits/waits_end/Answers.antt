use Rattle.law_reference.proofs.Reference.RinglessRuns.{waits_end_in_runs}
use Rattle.law_reference.proofs.waits.waits_end.Goals as goal

pub returns : goal.returns
returns c = waits_end_in_runs
