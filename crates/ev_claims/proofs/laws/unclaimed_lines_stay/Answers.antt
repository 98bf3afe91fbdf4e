use Rattle.ev_claims.proofs.Unclaimed.{unclaimed_lines_stay}
use Rattle.ev_claims.proofs.laws.unclaimed_lines_stay.Goals as goal

pub returns : goal.returns
returns c = unclaimed_lines_stay
