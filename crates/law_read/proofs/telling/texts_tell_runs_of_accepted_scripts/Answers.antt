use Rattle.law_read.proofs.ReadScripts.AcceptedTexts.{tell_accepted}
use Rattle.law_read.proofs.telling.texts_tell_runs_of_accepted_scripts.Goals as goal

pub returns : goal.returns
returns c = tell_accepted
