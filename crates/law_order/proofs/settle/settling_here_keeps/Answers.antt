use Rattle.law_order.proofs.Ordering.Onward.{settling_here_keeps}
use Rattle.law_order.proofs.settle.settling_here_keeps.Goals as goal

pub returns : goal.returns
returns c = settling_here_keeps
