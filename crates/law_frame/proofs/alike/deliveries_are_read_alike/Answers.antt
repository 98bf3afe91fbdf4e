use Rattle.law_frame.proofs.Frame.AlikeLaws.{deliveries_alike}
use Rattle.law_frame.proofs.alike.deliveries_are_read_alike.Goals as goal

pub returns : goal.returns
returns c = deliveries_alike
