use Rattle.law_machine.proofs.Run.RunLaws.{notices_open, notices_run}
use Rattle.law_machine.proofs.runs.notices_stay.Goals as goal

pub returns : goal.returns
returns c = (notices_open, notices_run)
