use Rattle.ev_claims.proofs.Showing.{names_are_shown}
use Rattle.ev_claims.proofs.laws.names_are_shown.Goals as goal

pub returns : goal.returns
returns c = names_are_shown
