use Rattle.law_play.proofs.Lawful.{honest_plays_are_of_scripts}
use Rattle.law_play.proofs.honest_plays_are_of_scripts.Goals as goal

pub returns : goal.returns
returns c = honest_plays_are_of_scripts
