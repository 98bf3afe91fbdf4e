use Rattle.law_trace.proofs.Trace.ValuesAgain.{values_again}
use Rattle.law_trace.proofs.values.things_are_read_again.Goals as goal

pub returns : goal.returns
returns c = values_again
