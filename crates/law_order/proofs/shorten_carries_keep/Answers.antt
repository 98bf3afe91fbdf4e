use Rattle.law_order.proofs.Asks.Shortens.{shorten_carries_keep}
use Rattle.law_order.proofs.shorten_carries_keep.Goals as goal

pub returns : goal.returns
returns c = shorten_carries_keep
