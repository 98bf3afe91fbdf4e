use Rattle.law_lawful.proofs.Reached.{notes_ends}
use Rattle.law_lawful.proofs.notes_name_their_ends.Goals as goal

pub returns : goal.returns
returns c = notes_ends
