use Rattle.law_frame.proofs.Frame.WireLaws.{draws_in_order}
use Rattle.law_frame.proofs.wire.draws_are_in_order.Goals as goal

pub returns : goal.returns
returns c = draws_in_order
