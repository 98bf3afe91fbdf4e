use Rattle.law_instance.proofs.Whole.{steps_alike}
use Rattle.law_instance.proofs.honest_steps_are_alike.Goals as goal

pub returns : goal.returns
returns c = steps_alike
