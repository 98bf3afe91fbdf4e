use Rattle.law_order.proofs.Ordering.Shortened.{shortened_gifts_turn}
use Rattle.law_order.proofs.arrive.shortened_gifts_turn.Goals as goal

pub returns : goal.returns
returns c = shortened_gifts_turn
