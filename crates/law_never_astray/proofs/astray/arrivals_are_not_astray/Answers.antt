use Rattle.law_never_astray.proofs.Arrivals.{arrivals_are_not_astray}
use Rattle.law_never_astray.proofs.astray.arrivals_are_not_astray.Goals as goal

pub returns : goal.returns
returns c = arrivals_are_not_astray
