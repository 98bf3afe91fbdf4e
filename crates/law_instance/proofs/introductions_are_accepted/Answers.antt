use Rattle.law_instance.proofs.Corollaries.{introduction_accepted}
use Rattle.law_instance.proofs.introductions_are_accepted.Goals as goal

pub returns : goal.returns
returns c = introduction_accepted
