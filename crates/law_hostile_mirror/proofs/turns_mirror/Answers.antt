use Rattle.law_hostile_mirror.proofs.Own.{turns_mirror}
use Rattle.law_hostile_mirror.proofs.turns_mirror.Goals as goal

pub returns : goal.returns
returns c = turns_mirror
