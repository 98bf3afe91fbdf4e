use Rattle.law_hostile_frame.proofs.Steps.{events_mirror}
use Rattle.law_hostile_frame.proofs.events_mirror.Goals as goal

pub returns : goal.returns
returns c = events_mirror
