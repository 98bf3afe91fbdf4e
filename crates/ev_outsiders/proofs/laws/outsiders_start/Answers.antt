use Rattle.ev_outsiders.proofs.Counts.{outsiders_start}
use Rattle.ev_outsiders.proofs.laws.outsiders_start.Goals as goal

pub returns : goal.returns
returns c = outsiders_start
