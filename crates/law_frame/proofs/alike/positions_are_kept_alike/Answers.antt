use Rattle.law_frame.proofs.Frame.AlikeArrivals.{positions_kept_alike}
use Rattle.law_frame.proofs.alike.positions_are_kept_alike.Goals as goal

pub returns : goal.returns
returns c = positions_kept_alike
