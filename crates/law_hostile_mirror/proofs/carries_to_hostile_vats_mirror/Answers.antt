use Rattle.law_hostile_mirror.proofs.Swallows.{carries_to_hostile_vats_mirror}
use Rattle.law_hostile_mirror.proofs.carries_to_hostile_vats_mirror.Goals as goal

pub returns : goal.returns
returns c = carries_to_hostile_vats_mirror
