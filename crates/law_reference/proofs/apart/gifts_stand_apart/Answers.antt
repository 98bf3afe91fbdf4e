use Rattle.law_reference.proofs.Reference.ApartWhole.{stand_apart}
use Rattle.law_reference.proofs.apart.gifts_stand_apart.Goals as goal

pub returns : goal.returns
returns c = stand_apart
