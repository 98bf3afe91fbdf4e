use Rattle.law_hostile_tables.proofs.Steps.{notes_tell}
use Rattle.law_hostile_tables.proofs.notes_tell_names.Goals as goal

pub returns : goal.returns
returns c = notes_tell
