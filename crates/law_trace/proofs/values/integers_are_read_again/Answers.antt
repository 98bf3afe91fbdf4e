use Rattle.law_trace.proofs.Trace.IntegersAgain.{integers_again}
use Rattle.law_trace.proofs.values.integers_are_read_again.Goals as goal

pub returns : goal.returns
returns c = integers_again
