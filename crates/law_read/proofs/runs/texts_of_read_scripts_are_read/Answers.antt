use Rattle.law_read.proofs.ReadTexts.ScriptsRead.{texts_of_scripts}
use Rattle.law_read.proofs.runs.texts_of_read_scripts_are_read.Goals as goal

pub returns : goal.returns
returns c = texts_of_scripts
