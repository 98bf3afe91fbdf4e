use Rattle.law_frame.proofs.Frame.Notes.{read_alike}
use Rattle.law_frame.proofs.numbers.every_note_is_read_alike.Goals as goal

pub returns : goal.returns
returns c = read_alike
