use Rattle.law_machine.proofs.Run.RunLaws.{objects_open, objects_run}
use Rattle.law_machine.proofs.runs.objects_stay.Goals as goal

pub returns : goal.returns
returns c = (objects_open, objects_run)
