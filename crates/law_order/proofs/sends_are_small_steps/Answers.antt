use Rattle.law_order.proofs.History.SendLaws.{sends_are_small_steps}
use Rattle.law_order.proofs.sends_are_small_steps.Goals as goal

pub returns : goal.returns
returns c = sends_are_small_steps
