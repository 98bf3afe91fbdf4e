use Rattle.ev_play.proofs.QuietLemmas.{quiet_plays_are_scripts}
use Rattle.ev_play.proofs.reader.quiet_plays_are_scripts.Goals as goal

pub returns : goal.returns
returns c = quiet_plays_are_scripts
