use Rattle.law_order.proofs.Ordering.Whole.{settlings_keep}
use Rattle.law_order.proofs.settle.settlings_keep.Goals as goal

pub returns : goal.returns
returns c = settlings_keep
