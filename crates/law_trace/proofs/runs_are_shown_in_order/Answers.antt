use Rattle.law_trace.proofs.Told.Whole.{shown_runs}
use Rattle.law_trace.proofs.runs_are_shown_in_order.Goals as goal

pub returns : goal.returns
returns c = shown_runs
