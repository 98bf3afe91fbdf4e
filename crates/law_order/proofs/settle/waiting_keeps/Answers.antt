use Rattle.law_order.proofs.Ordering.Loose.{waiting_keeps}
use Rattle.law_order.proofs.settle.waiting_keeps.Goals as goal

pub returns : goal.returns
returns c = waiting_keeps
