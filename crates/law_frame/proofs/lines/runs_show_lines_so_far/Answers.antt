use Rattle.law_frame.proofs.Stopping.ShownRuns.{runs_show}
use Rattle.law_frame.proofs.lines.runs_show_lines_so_far.Goals as goal

pub returns : goal.returns
returns c = runs_show
