use Rattle.law_hostile.proofs.Stays.{what_a_vat_has_is_its_own}
use Rattle.law_hostile.proofs.hostile.what_a_vat_has_is_its_own.Goals as goal

pub returns : goal.returns
returns c = what_a_vat_has_is_its_own
