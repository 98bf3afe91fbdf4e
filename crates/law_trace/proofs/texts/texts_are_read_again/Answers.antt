use Rattle.law_trace.proofs.Trace.WholeAgain.{texts_again}
use Rattle.law_trace.proofs.texts.texts_are_read_again.Goals as goal

pub returns : goal.returns
returns c = texts_again
