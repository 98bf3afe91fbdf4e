use Rattle.law_order.proofs.Tales.Cuts.{cuts_are_tales}
use Rattle.law_order.proofs.cuts_are_tales.Goals as goal

pub returns : goal.returns
returns c = cuts_are_tales
