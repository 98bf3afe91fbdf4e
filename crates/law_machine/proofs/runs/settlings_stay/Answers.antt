use Rattle.law_machine.proofs.Run.RunLaws.{settlings_open, settlings_run}
use Rattle.law_machine.proofs.runs.settlings_stay.Goals as goal

pub returns : goal.returns
returns c = (settlings_open, settlings_run)
