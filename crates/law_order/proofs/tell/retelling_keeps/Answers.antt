use Rattle.law_order.proofs.Arrivals.Retold.{retelling_keeps}
use Rattle.law_order.proofs.tell.retelling_keeps.Goals as goal

pub returns : goal.returns
returns c = retelling_keeps
