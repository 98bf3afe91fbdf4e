use Rattle.law_read.proofs.ReadTexts.WholeTexts.{texts_utf8}
use Rattle.law_read.proofs.texts.texts_are_utf8.Goals as goal

pub returns : goal.returns
returns c = texts_utf8
