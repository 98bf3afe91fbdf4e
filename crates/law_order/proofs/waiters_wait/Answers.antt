use Rattle.law_order.proofs.Waits.Runs.{waiters_wait_in_runs}
use Rattle.law_order.proofs.waiters_wait.Goals as goal

pub returns : goal.returns
returns c = waiters_wait_in_runs
