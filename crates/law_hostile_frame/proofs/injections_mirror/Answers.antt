use Rattle.law_hostile_frame.proofs.Steps.{injections_mirror}
use Rattle.law_hostile_frame.proofs.injections_mirror.Goals as goal

pub returns : goal.returns
returns c = injections_mirror
