use Rattle.law_order.proofs.Runs.OwnRuns.{own_names_end}
use Rattle.law_order.proofs.owning.own_names_end.Goals as goal

pub returns : goal.returns
returns c = own_names_end
