use Rattle.law_order.proofs.Cuts.Reached.{cuts_keep_in_runs}
use Rattle.law_order.proofs.cut.cuts_keep_in_runs.Goals as goal

pub returns : goal.returns
returns c = cuts_keep_in_runs
