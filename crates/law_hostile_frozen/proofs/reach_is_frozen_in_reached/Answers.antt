use Rattle.law_hostile_frozen.proofs.Moves.{reached_frozen}
use Rattle.law_hostile_frozen.proofs.reach_is_frozen_in_reached.Goals as goal

pub returns : goal.returns
returns c = reached_frozen
