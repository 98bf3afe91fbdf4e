use Rattle.law_reference.proofs.Reference.KnownOnce.{waits_end_where_new}
use Rattle.law_reference.proofs.waits.waits_end_where_notes_bring_new.Goals as goal

pub returns : goal.returns
returns c = waits_end_where_new
