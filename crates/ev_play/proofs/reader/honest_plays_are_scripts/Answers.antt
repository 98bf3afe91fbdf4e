use Rattle.ev_play.proofs.AdmittedPlay.{honest_plays_are_scripts}
use Rattle.ev_play.proofs.reader.honest_plays_are_scripts.Goals as goal

pub returns : goal.returns
returns c = honest_plays_are_scripts
