use Rattle.law_hostile_carry.proofs.Sound.{far_objects_are_apart}
use Rattle.law_hostile_carry.proofs.far_objects_are_apart.Goals as goal

pub returns : goal.returns
returns c = far_objects_are_apart
