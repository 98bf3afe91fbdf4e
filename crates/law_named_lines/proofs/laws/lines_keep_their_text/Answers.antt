use Rattle.law_named_lines.proofs.Keeping.{lines_keep_their_text}
use Rattle.law_named_lines.proofs.laws.lines_keep_their_text.Goals as goal

pub returns : goal.returns
returns c = lines_keep_their_text
