use Rattle.law_order.proofs.Ordering.Agreeing.{agreeing_keeps}
use Rattle.law_order.proofs.arrive.agreeing_keeps.Goals as goal

pub returns : goal.returns
returns c = agreeing_keeps
