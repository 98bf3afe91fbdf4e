use Rattle.law_hostile_frame.proofs.Whole.{steps_alike}
use Rattle.law_hostile_frame.proofs.steps_are_alike.Goals as goal

pub returns : goal.returns
returns c = steps_alike
