use Rattle.law_text.proofs.Text.Valued.{value_told}
use Rattle.law_text.proofs.values.texts_tell_values.Goals as goal

pub returns : goal.returns
returns c = value_told
