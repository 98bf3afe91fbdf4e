use Rattle.law_fate.proofs.Fates.WholeFateLaws.{views_end_in_runs}
use Rattle.law_fate.proofs.whole.views_end_in_runs.Goals as goal

pub returns : goal.returns
returns c = views_end_in_runs
