use Rattle.law_hostile_mirror.proofs.Closing.{closings_mirror}
use Rattle.law_hostile_mirror.proofs.closings_mirror.Goals as goal

pub returns : goal.returns
returns c = closings_mirror
