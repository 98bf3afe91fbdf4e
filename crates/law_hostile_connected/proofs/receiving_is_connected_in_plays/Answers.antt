use Rattle.law_hostile_connected.proofs.Plays.{receiving_is_connected}
use Rattle.law_hostile_connected.proofs.receiving_is_connected_in_plays.Goals as goal

pub returns : goal.returns
returns c = receiving_is_connected
