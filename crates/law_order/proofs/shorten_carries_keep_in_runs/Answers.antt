use Rattle.law_order.proofs.Asks.ShortenRuns.{shorten_carries_keep_in_runs}
use Rattle.law_order.proofs.shorten_carries_keep_in_runs.Goals as goal

pub returns : goal.returns
returns c = shorten_carries_keep_in_runs
