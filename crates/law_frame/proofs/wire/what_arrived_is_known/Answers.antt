use Rattle.law_frame.proofs.Frame.WireLaws.{arrived_known}
use Rattle.law_frame.proofs.wire.what_arrived_is_known.Goals as goal

pub returns : goal.returns
returns c = arrived_known
