use Rattle.law_order.proofs.Ordering.Amid.{first_is_taken}
use Rattle.law_order.proofs.order.first_is_taken.Goals as goal

pub returns : goal.returns
returns c = first_is_taken
