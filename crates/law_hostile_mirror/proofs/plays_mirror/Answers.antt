use Rattle.law_hostile_mirror.proofs.Plays.{plays_mirror}
use Rattle.law_hostile_mirror.proofs.plays_mirror.Goals as goal

pub returns : goal.returns
returns c = plays_mirror
