use Rattle.law_hostile.proofs.Speaks.{hostile_vats_speak}
use Rattle.law_hostile.proofs.hostile.hostile_vats_speak.Goals as goal

pub returns : goal.returns
returns c = hostile_vats_speak
