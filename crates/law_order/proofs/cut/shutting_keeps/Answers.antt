use Rattle.law_order.proofs.Cuts.Shut.{shutting_keeps}
use Rattle.law_order.proofs.cut.shutting_keeps.Goals as goal

pub returns : goal.returns
returns c = shutting_keeps
