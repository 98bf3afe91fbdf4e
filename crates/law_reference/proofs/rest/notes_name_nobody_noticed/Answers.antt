use Rattle.law_reference.proofs.Reference.NotesSpared.{notes_spared}
use Rattle.law_reference.proofs.rest.notes_name_nobody_noticed.Goals as goal

pub returns : goal.returns
returns c = notes_spared
