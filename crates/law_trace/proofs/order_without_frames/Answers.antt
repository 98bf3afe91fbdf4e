use Rattle.law_trace.proofs.Seen.ReadAgain.{order_unframed}
use Rattle.law_trace.proofs.order_without_frames.Goals as goal

pub returns : goal.returns
returns c = order_unframed
