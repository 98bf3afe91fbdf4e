use Rattle.law_machine.proofs.Run.RunLaws.{auditions_open, auditions_run}
use Rattle.law_machine.proofs.runs.auditions_stay_dead.Goals as goal

pub returns : goal.returns
returns c = (auditions_open, auditions_run)
