use Rattle.law_machine.proofs.Run.BreakRuns.{severings_open, severings_run}
use Rattle.law_machine.proofs.runs.severings_stay.Goals as goal

pub returns : goal.returns
returns c = (severings_open, severings_run)
