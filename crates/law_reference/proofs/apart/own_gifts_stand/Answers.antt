use Rattle.law_reference.proofs.Reference.ApartWhole.{own_stand}
use Rattle.law_reference.proofs.apart.own_gifts_stand.Goals as goal

pub returns : goal.returns
returns c = own_stand
