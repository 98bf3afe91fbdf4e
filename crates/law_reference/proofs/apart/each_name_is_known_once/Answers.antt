use Rattle.law_reference.proofs.Reference.ApartWhole.{known_once}
use Rattle.law_reference.proofs.apart.each_name_is_known_once.Goals as goal

pub returns : goal.returns
returns c = known_once
