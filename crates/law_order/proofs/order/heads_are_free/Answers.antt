use Rattle.law_order.proofs.Ordering.Changes.{heads_are_free}
use Rattle.law_order.proofs.order.heads_are_free.Goals as goal

pub returns : goal.returns
returns c = heads_are_free
