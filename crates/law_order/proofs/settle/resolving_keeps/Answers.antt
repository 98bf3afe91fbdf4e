use Rattle.law_order.proofs.Ordering.Resolving.{resolving_keeps}
use Rattle.law_order.proofs.settle.resolving_keeps.Goals as goal

pub returns : goal.returns
returns c = resolving_keeps
