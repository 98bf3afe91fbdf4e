use Rattle.law_hostile_mirror.proofs.Own.{openings_mirror}
use Rattle.law_hostile_mirror.proofs.openings_mirror.Goals as goal

pub returns : goal.returns
returns c = openings_mirror
