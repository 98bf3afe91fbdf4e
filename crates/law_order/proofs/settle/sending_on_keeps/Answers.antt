use Rattle.law_order.proofs.Ordering.Settling.{sending_on_keeps}
use Rattle.law_order.proofs.settle.sending_on_keeps.Goals as goal

pub returns : goal.returns
returns c = sending_on_keeps
