use Rattle.law_trace.proofs.Seen.ReadAgain.{order_of_renumbered}
use Rattle.law_trace.proofs.order_of_renumbered.Goals as goal

pub returns : goal.returns
returns c = order_of_renumbered
