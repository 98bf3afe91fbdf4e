use Rattle.law_fate.proofs.Fates.RunLight.{carries_and_weight}
use Rattle.law_fate.proofs.carry.carries_and_weight.Goals as goal

pub returns : goal.returns
returns c = carries_and_weight
