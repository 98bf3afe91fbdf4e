use Rattle.law_machine.proofs.Run.RunLaws.{lists_open, lists_run}
use Rattle.law_machine.proofs.runs.lists_stay.Goals as goal

pub returns : goal.returns
returns c = (lists_open, lists_run)
