use Rattle.law_hostile_mirror.proofs.Made.{deeds_are_counted}
use Rattle.law_hostile_mirror.proofs.deeds_are_counted.Goals as goal

pub returns : goal.returns
returns c = deeds_are_counted
