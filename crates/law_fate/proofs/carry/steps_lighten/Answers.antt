use Rattle.law_fate.proofs.Fates.StepsLight.{steps_lighten}
use Rattle.law_fate.proofs.carry.steps_lighten.Goals as goal

pub returns : goal.returns
returns c = steps_lighten
