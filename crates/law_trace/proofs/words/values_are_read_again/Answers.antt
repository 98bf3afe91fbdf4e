use Rattle.law_trace.proofs.Trace.PassedAgain.{values_again}
use Rattle.law_trace.proofs.words.values_are_read_again.Goals as goal

pub returns : goal.returns
returns c = values_again
