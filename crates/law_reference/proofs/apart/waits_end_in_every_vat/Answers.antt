use Rattle.law_reference.proofs.Reference.ApartWhole.{waits_end}
use Rattle.law_reference.proofs.apart.waits_end_in_every_vat.Goals as goal

pub returns : goal.returns
returns c = waits_end
