use Rattle.law_frame.proofs.Frame.AlikeLaws.{new_notes_alike}
use Rattle.law_frame.proofs.alike.new_notes_are_read_alike.Goals as goal

pub returns : goal.returns
returns c = new_notes_alike
