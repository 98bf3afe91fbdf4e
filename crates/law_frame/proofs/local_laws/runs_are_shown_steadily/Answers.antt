use Rattle.law_frame.proofs.local_laws.runs_are_shown_steadily.Goals as goal
use Rattle.law_frame.proofs.Steady.Shown.{shown_steadily}

pub returns : goal.returns
returns c = shown_steadily
