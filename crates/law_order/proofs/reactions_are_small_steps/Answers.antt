use Rattle.law_order.proofs.History.ReactStep.{reactions_are_small_steps}
use Rattle.law_order.proofs.reactions_are_small_steps.Goals as goal

pub returns : goal.returns
returns c = reactions_are_small_steps
