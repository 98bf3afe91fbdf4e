use Rattle.law_trace.proofs.Shown.Whole.{shown_in_order}
use Rattle.law_trace.proofs.histories_are_shown_in_order.Goals as goal

pub returns : goal.returns
returns c = shown_in_order
