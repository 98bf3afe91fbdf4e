use Rattle.law_order.proofs.Tales.Begun.{beginning_is_small}
use Rattle.law_order.proofs.beginning_is_small.Goals as goal

pub returns : goal.returns
returns c = beginning_is_small
