use Rattle.law_fate.proofs.Fates.RunLight.{two_carries_at_most}
use Rattle.law_fate.proofs.carry.two_carries_at_most.Goals as goal

pub returns : goal.returns
returns c = two_carries_at_most
