use Rattle.ev_ways.proofs.Draws.{draws_stand}
use Rattle.ev_ways.proofs.laws.draws_stand.Goals as goal

pub returns : goal.returns
returns c = draws_stand
