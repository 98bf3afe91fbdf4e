use Rattle.law_trace.proofs.Seen.ReadAgain.{order_of_seen}
use Rattle.law_trace.proofs.order_of_what_is_seen.Goals as goal

pub returns : goal.returns
returns c = order_of_seen
