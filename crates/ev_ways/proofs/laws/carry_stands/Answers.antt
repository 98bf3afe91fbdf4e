use Rattle.ev_ways.proofs.Changes.{carry_stands}
use Rattle.ev_ways.proofs.laws.carry_stands.Goals as goal

pub returns : goal.returns
returns c = carry_stands
