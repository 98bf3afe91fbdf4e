use Rattle.law_read.proofs.ReadTexts.ScriptsRead.{events_of_scripts}
use Rattle.law_read.proofs.runs.events_of_read_scripts_are_read.Goals as goal

pub returns : goal.returns
returns c = events_of_scripts
