use Rattle.law_hostile_connected.proofs.Plays.{nothing_live}
use Rattle.law_hostile_connected.proofs.nothing_is_live_in_plays.Goals as goal

pub returns : goal.returns
returns c = nothing_live
