use Rattle.law_reference.proofs.Reference.ApartWhole.{bring_new}
use Rattle.law_reference.proofs.apart.notes_bring_new.Goals as goal

pub returns : goal.returns
returns c = bring_new
