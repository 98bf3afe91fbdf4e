use Rattle.law_order.proofs.Runs.ToldRuns.{elsewhere_is_true}
use Rattle.law_order.proofs.telling.elsewhere_is_true.Goals as goal

pub returns : goal.returns
returns c = elsewhere_is_true
