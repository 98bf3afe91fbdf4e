use Rattle.law_frame.proofs.Stopping.ShownRuns.{openings_show}
use Rattle.law_frame.proofs.lines.opening_turns_show_lines_so_far.Goals as goal

pub returns : goal.returns
returns c = openings_show
