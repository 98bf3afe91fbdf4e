use Rattle.law_never_astray.proofs.CoveredLaws.{evaluations_carry}
use Rattle.law_never_astray.proofs.covered.evaluations_carry.Goals as goal

pub returns : goal.returns
returns c = evaluations_carry
