use Rattle.law_uses.proofs.Running.Facts.{lines_tell}
use Rattle.law_uses.proofs.lines_tell_what_is_given.Goals as goal

pub returns : goal.returns
returns c = lines_tell
