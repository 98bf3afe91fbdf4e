use Rattle.law_lawful.proofs.Stopped.{leave_what_was, next_stop}
use Rattle.law_lawful.proofs.halted.Goals as goal

pub returns-clause-left : goal.returns-clause-left
returns-clause-left c = leave_what_was

pub returns-clause-step : goal.returns-clause-step
returns-clause-step c = next_stop
