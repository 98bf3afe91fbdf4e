use Rattle.law_frame.proofs.Frame.AlikeLaws.{settlings_alike}
use Rattle.law_frame.proofs.alike.settlings_are_read_alike.Goals as goal

pub returns : goal.returns
returns c = settlings_alike
