use Rattle.law_read.proofs.ReadOrder.Kept.{kept_as_read}
use Rattle.law_read.proofs.order_is_kept_as_read.Goals as goal

pub returns : goal.returns
returns c = kept_as_read
