use Rattle.law_order.proofs.TurnTales.Whole.{openings_are_tales}
use Rattle.law_order.proofs.openings_are_tales.Goals as goal

pub returns : goal.returns
returns c = openings_are_tales
