use Rattle.law_machine.proofs.Run.RunLaws.{names_open, names_run}
use Rattle.law_machine.proofs.runs.names_stay.Goals as goal

pub returns : goal.returns
returns c = (names_open, names_run)
