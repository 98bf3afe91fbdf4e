use Rattle.law_fate.proofs.Name.Laws.{notes_made}
use Rattle.law_fate.proofs.names.notes_name_what_was_made.Goals as goal

pub returns : goal.returns
returns c = notes_made
