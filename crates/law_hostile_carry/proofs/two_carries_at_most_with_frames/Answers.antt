use Rattle.law_hostile_carry.proofs.Carries.{two_carries}
use Rattle.law_hostile_carry.proofs.two_carries_at_most_with_frames.Goals as goal

pub returns : goal.returns
returns c = two_carries
