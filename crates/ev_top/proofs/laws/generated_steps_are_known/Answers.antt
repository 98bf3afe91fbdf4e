use Rattle.ev_top.proofs.Generated.{steps_are}
use Rattle.ev_top.proofs.laws.generated_steps_are_known.Goals as goal

pub returns : goal.returns
returns c = steps_are
