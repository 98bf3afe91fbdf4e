use Rattle.law_order.proofs.Ordering.Opened.{opened_gifts_turn}
use Rattle.law_order.proofs.arrive.opened_gifts_turn.Goals as goal

pub returns : goal.returns
returns c = opened_gifts_turn
