use Rattle.law_frame.proofs.Stopping.ShownRuns.{lines_shown_so_far}
use Rattle.law_frame.proofs.lines.lines_are_shown_so_far.Goals as goal

pub returns : goal.returns
returns c = lines_shown_so_far
