use Rattle.law_machine.proofs.Run.BreakRuns.{severed_objects_open, severed_objects_run}
use Rattle.law_machine.proofs.runs.severed_objects_stay.Goals as goal

pub returns : goal.returns
returns c = (severed_objects_open, severed_objects_run)
