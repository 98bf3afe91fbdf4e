use Rattle.law_frame.proofs.Local.JoinedRuns.{others_so}
use Rattle.law_frame.proofs.whole.steps_mirror_where_carries_do.Goals as goal

pub returns : goal.returns
returns c = others_so
