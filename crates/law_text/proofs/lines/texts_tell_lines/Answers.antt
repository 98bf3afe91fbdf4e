use Rattle.law_text.proofs.Text.Told.{texts_tell}
use Rattle.law_text.proofs.lines.texts_tell_lines.Goals as goal

pub returns : goal.returns
returns c = texts_tell
