use Rattle.law_frame.proofs.Frame.AlikeLaws.{notes_alike}
use Rattle.law_frame.proofs.alike.notes_are_read_alike.Goals as goal

pub returns : goal.returns
returns c = notes_alike
