use Rattle.law_order.proofs.Ordering.Settling.{settling_keeps}
use Rattle.law_order.proofs.settle.settling_keeps.Goals as goal

pub returns : goal.returns
returns c = settling_keeps
