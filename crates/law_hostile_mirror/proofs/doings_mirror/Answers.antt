use Rattle.law_hostile_mirror.proofs.Doings.{doings_mirror}
use Rattle.law_hostile_mirror.proofs.doings_mirror.Goals as goal

pub returns : goal.returns
returns c = doings_mirror
