use Rattle.law_read.proofs.ReadScripts.ReadTexts.{texts_tell_read_scripts}
use Rattle.law_read.proofs.telling.texts_tell_read_scripts.Goals as goal

pub returns : goal.returns
returns c = texts_tell_read_scripts
