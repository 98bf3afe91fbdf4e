use Rattle.law_text.proofs.Text.Kinded.{texts_tell_kinds}
use Rattle.law_text.proofs.kinds.texts_tell_kinds.Goals as goal

pub returns : goal.returns
returns c = texts_tell_kinds
