use Rattle.law_machine.proofs.Halting.Halted.{stopped_leave}
use Rattle.law_machine.proofs.stopped_runs_leave.Goals as goal

pub returns : goal.returns
returns c = stopped_leave
