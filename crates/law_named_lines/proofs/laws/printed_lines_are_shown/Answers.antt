use Rattle.law_named_lines.proofs.Shown.{printed_lines_are_shown}
use Rattle.law_named_lines.proofs.laws.printed_lines_are_shown.Goals as goal

pub returns : goal.returns
returns c = printed_lines_are_shown
