use Rattle.law_order.proofs.TurnTales.Whole.{turns_are_tales}
use Rattle.law_order.proofs.turns_are_tales.Goals as goal

pub returns : goal.returns
returns c = turns_are_tales
