use Rattle.law_machine.proofs.Run.RunLaws.{history_open, history_run}
use Rattle.law_machine.proofs.runs.history_grows.Goals as goal

pub returns : goal.returns
returns c = (history_open, history_run)
