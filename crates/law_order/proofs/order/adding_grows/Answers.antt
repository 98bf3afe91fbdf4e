use Rattle.law_order.proofs.Ordering.Amid.{adding_grows}
use Rattle.law_order.proofs.order.adding_grows.Goals as goal

pub returns : goal.returns
returns c = adding_grows
