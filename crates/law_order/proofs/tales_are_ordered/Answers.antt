use Rattle.law_order.proofs.History.Tales.{tales_are_ordered}
use Rattle.law_order.proofs.tales_are_ordered.Goals as goal

pub returns : goal.returns
returns c = tales_are_ordered
