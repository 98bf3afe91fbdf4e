use Rattle.law_hostile_carry.proofs.Sound.{honest_vats_are_sound}
use Rattle.law_hostile_carry.proofs.honest_vats_are_sound.Goals as goal

pub returns : goal.returns
returns c = honest_vats_are_sound
