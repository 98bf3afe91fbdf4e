use Rattle.ev_sturdy.proofs.Shows.{shows_registered as law}
use Rattle.ev_sturdy.proofs.laws.shows_registered.Goals as goal

pub returns : goal.returns
returns c = law
