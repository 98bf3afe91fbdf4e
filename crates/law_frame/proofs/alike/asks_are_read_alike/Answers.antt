use Rattle.law_frame.proofs.Frame.AlikeLaws.{asks_alike}
use Rattle.law_frame.proofs.alike.asks_are_read_alike.Goals as goal

pub returns : goal.returns
returns c = asks_alike
