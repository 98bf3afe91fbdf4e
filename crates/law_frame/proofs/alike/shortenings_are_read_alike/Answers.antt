use Rattle.law_frame.proofs.Frame.AlikeLaws.{shortenings_alike}
use Rattle.law_frame.proofs.alike.shortenings_are_read_alike.Goals as goal

pub returns : goal.returns
returns c = shortenings_alike
