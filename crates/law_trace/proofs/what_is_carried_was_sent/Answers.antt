use Rattle.law_trace.proofs.Told.Whole.{carried_was_sent}
use Rattle.law_trace.proofs.what_is_carried_was_sent.Goals as goal

pub returns : goal.returns
returns c = carried_was_sent
