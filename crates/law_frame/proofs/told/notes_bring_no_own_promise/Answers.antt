use Rattle.law_frame.proofs.Local.ToldLaws.{no_own_brought}
use Rattle.law_frame.proofs.told.notes_bring_no_own_promise.Goals as goal

pub returns : goal.returns
returns c = no_own_brought
