use Rattle.law_text.proofs.Text.Kinded.{kinds_told}
use Rattle.law_text.proofs.kinds.words_tell_kinds.Goals as goal

pub returns : goal.returns
returns c = kinds_told
