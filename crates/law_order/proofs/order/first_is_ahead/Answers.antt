use Rattle.law_order.proofs.Ordering.Waits.{first_is_ahead}
use Rattle.law_order.proofs.order.first_is_ahead.Goals as goal

pub returns : goal.returns
returns c = first_is_ahead
