use Rattle.ev_ways.proofs.Cuts.{cut_stands}
use Rattle.ev_ways.proofs.laws.cut_stands.Goals as goal

pub returns : goal.returns
returns c = cut_stands
