use Rattle.law_reference.proofs.Reference.RestLaws.{followed_broken}
use Rattle.law_reference.proofs.rest.followed_breaks_stay_broken.Goals as goal

pub returns : goal.returns
returns c = followed_broken
