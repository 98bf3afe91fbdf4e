use Rattle.law_trace.proofs.Trace.WholeAgain.{histories_again}
use Rattle.law_trace.proofs.texts.histories_are_read_again.Goals as goal

pub returns : goal.returns
returns c = histories_again
