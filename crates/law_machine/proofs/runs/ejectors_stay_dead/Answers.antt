use Rattle.law_machine.proofs.Run.RunLaws.{ejectors_open, ejectors_run}
use Rattle.law_machine.proofs.runs.ejectors_stay_dead.Goals as goal

pub returns : goal.returns
returns c = (ejectors_open, ejectors_run)
