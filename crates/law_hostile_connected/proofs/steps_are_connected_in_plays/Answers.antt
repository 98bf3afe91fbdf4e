use Rattle.law_hostile_connected.proofs.Plays.{steps_are_connected}
use Rattle.law_hostile_connected.proofs.steps_are_connected_in_plays.Goals as goal

pub returns : goal.returns
returns c = steps_are_connected
