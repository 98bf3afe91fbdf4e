use Rattle.law_frame.proofs.Frame.Notes.{kept_alike}
use Rattle.law_frame.proofs.numbers.every_position_is_kept_alike.Goals as goal

pub returns : goal.returns
returns c = kept_alike
