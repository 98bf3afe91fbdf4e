use Rattle.law_read.proofs.ReadScripts.Bounded.{tell_scripts}
use Rattle.law_read.proofs.telling.texts_tell_accepted_scripts.Goals as goal

pub returns : goal.returns
returns c = tell_scripts
