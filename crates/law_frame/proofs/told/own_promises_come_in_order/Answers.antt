use Rattle.law_frame.proofs.Local.ToldPromises.{own_promises_ordered}
use Rattle.law_frame.proofs.told.own_promises_come_in_order.Goals as goal

pub returns : goal.returns
returns c = own_promises_ordered
