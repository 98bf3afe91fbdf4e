use Rattle.law_order.proofs.Tales.Silent.{silent_leaving_is_small}
use Rattle.law_order.proofs.silent_leaving_is_small.Goals as goal

pub returns : goal.returns
returns c = silent_leaving_is_small
