use Rattle.law_order.proofs.Runs.ToldRuns.{told_names_settled}
use Rattle.law_order.proofs.telling.told_names_settled.Goals as goal

pub returns : goal.returns
returns c = told_names_settled
