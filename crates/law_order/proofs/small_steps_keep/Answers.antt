use Rattle.law_order.proofs.History.Kept.{small_steps_keep}
use Rattle.law_order.proofs.small_steps_keep.Goals as goal

pub returns : goal.returns
returns c = small_steps_keep
