use Rattle.law_trace.proofs.Trace.OthersAgain.{short_problems_again}
use Rattle.law_trace.proofs.values.short_problems_are_read_again.Goals as goal

pub returns : goal.returns
returns c = short_problems_again
