use Rattle.law_order.proofs.Ordering.Onward.{settling_to_nothing_keeps}
use Rattle.law_order.proofs.settle.settling_to_nothing_keeps.Goals as goal

pub returns : goal.returns
returns c = settling_to_nothing_keeps
