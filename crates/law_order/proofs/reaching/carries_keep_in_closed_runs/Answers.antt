use Rattle.law_order.proofs.Runs.ClosedRuns.{carries_keep_in_closed_runs}
use Rattle.law_order.proofs.reaching.carries_keep_in_closed_runs.Goals as goal

pub returns : goal.returns
returns c = carries_keep_in_closed_runs
