use Rattle.law_order.proofs.History.TakeStep.{takes_are_small_steps}
use Rattle.law_order.proofs.takes_are_small_steps.Goals as goal

pub returns : goal.returns
returns c = takes_are_small_steps
