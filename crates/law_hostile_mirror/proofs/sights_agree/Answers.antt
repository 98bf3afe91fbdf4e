use Rattle.law_hostile_mirror.proofs.Sights.{sights_agree}
use Rattle.law_hostile_mirror.proofs.sights_agree.Goals as goal

pub returns : goal.returns
returns c = sights_agree
