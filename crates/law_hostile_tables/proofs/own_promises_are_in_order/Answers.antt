use Rattle.law_hostile_tables.proofs.Steps.{own_in_order}
use Rattle.law_hostile_tables.proofs.own_promises_are_in_order.Goals as goal

pub returns : goal.returns
returns c = own_in_order
