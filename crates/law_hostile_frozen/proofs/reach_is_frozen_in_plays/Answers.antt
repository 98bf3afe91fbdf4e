use Rattle.law_hostile_frozen.proofs.Plays.{plays_frozen}
use Rattle.law_hostile_frozen.proofs.reach_is_frozen_in_plays.Goals as goal

pub returns : goal.returns
returns c = plays_frozen
