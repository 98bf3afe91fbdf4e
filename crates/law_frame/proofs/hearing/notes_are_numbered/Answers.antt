use Rattle.law_frame.proofs.Heard.Laws.{notes_numbered}
use Rattle.law_frame.proofs.hearing.notes_are_numbered.Goals as goal

pub returns : goal.returns
returns c = notes_numbered
