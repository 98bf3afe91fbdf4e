use Rattle.law_read.proofs.ReadTexts.WholeTexts.{texts_read}
use Rattle.law_read.proofs.texts.texts_are_read.Goals as goal

pub returns : goal.returns
returns c = texts_read
