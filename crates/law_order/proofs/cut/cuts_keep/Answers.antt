use Rattle.law_order.proofs.Cuts.Severed.{cuts_keep}
use Rattle.law_order.proofs.cut.cuts_keep.Goals as goal

pub returns : goal.returns
returns c = cuts_keep
