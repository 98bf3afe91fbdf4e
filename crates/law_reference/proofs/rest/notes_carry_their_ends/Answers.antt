use Rattle.law_reference.proofs.Reference.NotesRuns.{notes_carry_ends}
use Rattle.law_reference.proofs.rest.notes_carry_their_ends.Goals as goal

pub returns : goal.returns
returns c = notes_carry_ends
