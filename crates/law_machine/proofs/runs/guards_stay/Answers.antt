use Rattle.law_machine.proofs.Run.RunLaws.{guards_open, guards_run}
use Rattle.law_machine.proofs.runs.guards_stay.Goals as goal

pub returns : goal.returns
returns c = (guards_open, guards_run)
