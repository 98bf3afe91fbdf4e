use Rattle.law_trace.proofs.Trace.OthersAgain.{primitives_again}
use Rattle.law_trace.proofs.values.primitives_are_read_again.Goals as goal

pub returns : goal.returns
returns c = primitives_again
