use Rattle.law_hostile_mirror.proofs.Own.{notices_mirror}
use Rattle.law_hostile_mirror.proofs.notices_mirror.Goals as goal

pub returns : goal.returns
returns c = notices_mirror
