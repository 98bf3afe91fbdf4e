use Rattle.law_reference.proofs.Reference.RestLaws.{breaks_stay}
use Rattle.law_reference.proofs.rest.breaks_stay_broken.Goals as goal

pub returns : goal.returns
returns c = breaks_stay
