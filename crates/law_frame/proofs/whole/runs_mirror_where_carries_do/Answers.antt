use Rattle.law_frame.proofs.Local.JoinedRuns.{runs_so}
use Rattle.law_frame.proofs.whole.runs_mirror_where_carries_do.Goals as goal

pub returns : goal.returns
returns c = runs_so
