use Rattle.law_trace.proofs.Seen.ReadAgain.{order_read_again}
use Rattle.law_trace.proofs.order_is_read_again.Goals as goal

pub returns : goal.returns
returns c = order_read_again
