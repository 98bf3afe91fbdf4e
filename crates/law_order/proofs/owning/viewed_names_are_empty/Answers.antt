use Rattle.law_order.proofs.Runs.OwnRuns.{viewed_names_are_empty}
use Rattle.law_order.proofs.owning.viewed_names_are_empty.Goals as goal

pub returns : goal.returns
returns c = viewed_names_are_empty
