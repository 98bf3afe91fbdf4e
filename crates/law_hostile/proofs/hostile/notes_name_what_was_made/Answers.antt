use Rattle.law_hostile.proofs.Known.{notes_name_what_was_made}
use Rattle.law_hostile.proofs.hostile.notes_name_what_was_made.Goals as goal

pub returns : goal.returns
returns c = notes_name_what_was_made
