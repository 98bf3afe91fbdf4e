use Rattle.law_hostile_connected.proofs.Plays.{lines_are_connected}
use Rattle.law_hostile_connected.proofs.lines_are_connected_in_plays.Goals as goal

pub returns : goal.returns
returns c = lines_are_connected
