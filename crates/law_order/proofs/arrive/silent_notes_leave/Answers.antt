use Rattle.law_order.proofs.Ordering.OrderKeeping.{silent_notes_leave}
use Rattle.law_order.proofs.arrive.silent_notes_leave.Goals as goal

pub returns : goal.returns
returns c = silent_notes_leave
