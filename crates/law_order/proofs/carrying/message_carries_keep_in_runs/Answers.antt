use Rattle.law_order.proofs.Runs.CarryRuns.{message_carries_keep_in_runs}
use Rattle.law_order.proofs.carrying.message_carries_keep_in_runs.Goals as goal

pub returns : goal.returns
returns c = message_carries_keep_in_runs
