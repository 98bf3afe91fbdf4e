use Rattle.law_order.proofs.Ordering.Arrived.{learnt_names_are_behind}
use Rattle.law_order.proofs.arrive.learnt_names_are_behind.Goals as goal

pub returns : goal.returns
returns c = learnt_names_are_behind
