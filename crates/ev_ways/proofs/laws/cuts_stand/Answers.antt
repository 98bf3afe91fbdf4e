use Rattle.ev_ways.proofs.Links.{cuts_stand}
use Rattle.ev_ways.proofs.laws.cuts_stand.Goals as goal

pub returns : goal.returns
returns c = cuts_stand
