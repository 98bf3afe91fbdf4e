use Rattle.law_order.proofs.Whole.Ordered.{runs_are_ordered}
use Rattle.law_order.proofs.runs_are_ordered.Goals as goal

pub returns : goal.returns
returns c = runs_are_ordered
