use Rattle.ev_ways.proofs.Changes.{push_stands}
use Rattle.ev_ways.proofs.laws.push_stands.Goals as goal

pub returns : goal.returns
returns c = push_stands
