use Rattle.law_machine.proofs.Run.BreakRuns.{settled_breaks_open, settled_breaks_run}
use Rattle.law_machine.proofs.runs.settled_breaks_stay.Goals as goal

pub returns : goal.returns
returns c = (settled_breaks_open, settled_breaks_run)
