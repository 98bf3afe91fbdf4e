use Rattle.law_read.proofs.ReadOrder.Kept.{order_kept}
use Rattle.law_read.proofs.texts_keep_order.Goals as goal

pub returns : goal.returns
returns c = order_kept
