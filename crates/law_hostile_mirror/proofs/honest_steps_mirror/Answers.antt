use Rattle.law_hostile_mirror.proofs.Steps.{honest_steps_mirror}
use Rattle.law_hostile_mirror.proofs.honest_steps_mirror.Goals as goal

pub returns : goal.returns
returns c = honest_steps_mirror
