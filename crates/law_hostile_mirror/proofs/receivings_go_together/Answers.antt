use Rattle.law_hostile_mirror.proofs.Receives.{receivings_go_together}
use Rattle.law_hostile_mirror.proofs.receivings_go_together.Goals as goal

pub returns : goal.returns
returns c = receivings_go_together
