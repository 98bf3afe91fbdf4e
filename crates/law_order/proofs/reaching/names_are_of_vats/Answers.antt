use Rattle.law_order.proofs.Runs.ClosedRuns.{names_are_of_vats}
use Rattle.law_order.proofs.reaching.names_are_of_vats.Goals as goal

pub returns : goal.returns
returns c = names_are_of_vats
