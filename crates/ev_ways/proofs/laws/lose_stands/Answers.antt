use Rattle.ev_ways.proofs.Changes.{lose_stands}
use Rattle.ev_ways.proofs.laws.lose_stands.Goals as goal

pub returns : goal.returns
returns c = lose_stands
