use Rattle.ev_ways.proofs.Closing.{left_stands}
use Rattle.ev_ways.proofs.laws.left_stands.Goals as goal

pub returns : goal.returns
returns c = left_stands
