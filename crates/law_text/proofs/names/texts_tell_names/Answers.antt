use Rattle.law_text.proofs.Text.Named.{name_told}
use Rattle.law_text.proofs.names.texts_tell_names.Goals as goal

pub returns : goal.returns
returns c = name_told
