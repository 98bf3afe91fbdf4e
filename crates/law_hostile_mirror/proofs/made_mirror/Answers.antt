use Rattle.law_hostile_mirror.proofs.Made.{made_mirror}
use Rattle.law_hostile_mirror.proofs.made_mirror.Goals as goal

pub returns : goal.returns
returns c = made_mirror
