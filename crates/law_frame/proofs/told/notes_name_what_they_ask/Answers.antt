use Rattle.law_frame.proofs.Local.ToldLaws.{notes_named}
use Rattle.law_frame.proofs.told.notes_name_what_they_ask.Goals as goal

pub returns : goal.returns
returns c = notes_named
