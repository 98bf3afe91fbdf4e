use Rattle.law_order.proofs.Ordering.Resolving.{wait_on_keeps}
use Rattle.law_order.proofs.settle.wait_on_keeps.Goals as goal

pub returns : goal.returns
returns c = wait_on_keeps
