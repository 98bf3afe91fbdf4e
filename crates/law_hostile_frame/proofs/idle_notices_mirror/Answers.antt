use Rattle.law_hostile_frame.proofs.Steps.{idle_notices_mirror}
use Rattle.law_hostile_frame.proofs.idle_notices_mirror.Goals as goal

pub returns : goal.returns
returns c = idle_notices_mirror
