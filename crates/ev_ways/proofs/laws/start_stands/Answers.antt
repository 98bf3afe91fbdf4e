use Rattle.ev_ways.proofs.Starts.{start_stands}
use Rattle.ev_ways.proofs.laws.start_stands.Goals as goal

pub returns : goal.returns
returns c = start_stands
