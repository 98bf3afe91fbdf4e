use Rattle.law_reference.proofs.Reference.NotesRuns.{notes_name_ends}
use Rattle.law_reference.proofs.rest.notes_name_their_ends.Goals as goal

pub returns : goal.returns
returns c = notes_name_ends
