use Rattle.law_lawful.proofs.Reached.{notes_made}
use Rattle.law_lawful.proofs.notes_name_what_was_made.Goals as goal

pub returns : goal.returns
returns c = notes_made
