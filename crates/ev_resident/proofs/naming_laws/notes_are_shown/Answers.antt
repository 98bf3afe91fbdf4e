use Rattle.ev_resident.proofs.NotesShown.{notes_shown}
use Rattle.ev_resident.proofs.naming_laws.notes_are_shown.Goals as goal

pub returns : goal.returns
returns c = notes_shown
