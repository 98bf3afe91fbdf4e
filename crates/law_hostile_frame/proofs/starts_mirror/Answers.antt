use Rattle.law_hostile_frame.proofs.Starts.{starts_mirror}
use Rattle.law_hostile_frame.proofs.starts_mirror.Goals as goal

pub returns : goal.returns
returns c = starts_mirror
