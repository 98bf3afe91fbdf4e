use Rattle.law_lawful.proofs.Reached.{own_things}
use Rattle.law_lawful.proofs.what_an_honest_vat_has_is_its_own.Goals as goal

pub returns : goal.returns
returns c = own_things
