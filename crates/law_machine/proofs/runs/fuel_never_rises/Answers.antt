use Rattle.law_machine.proofs.Run.RunLaws.{fuel_open, fuel_run}
use Rattle.law_machine.proofs.runs.fuel_never_rises.Goals as goal

pub returns : goal.returns
returns c = (fuel_open, fuel_run)
