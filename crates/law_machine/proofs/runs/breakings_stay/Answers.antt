use Rattle.law_machine.proofs.Run.BreakRuns.{breakings_open, breakings_run}
use Rattle.law_machine.proofs.runs.breakings_stay.Goals as goal

pub returns : goal.returns
returns c = (breakings_open, breakings_run)
