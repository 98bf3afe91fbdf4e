use Rattle.law_order.proofs.Runs.ClosedRuns.{links_are_there}
use Rattle.law_order.proofs.reaching.links_are_there.Goals as goal

pub returns : goal.returns
returns c = links_are_there
