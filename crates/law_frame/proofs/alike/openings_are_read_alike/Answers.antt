use Rattle.law_frame.proofs.Frame.AlikeLaws.{openings_alike}
use Rattle.law_frame.proofs.alike.openings_are_read_alike.Goals as goal

pub returns : goal.returns
returns c = openings_alike
