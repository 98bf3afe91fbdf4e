use Rattle.law_frame.proofs.Local.WholeRuns.{whole_runs_mirror}
use Rattle.law_frame.proofs.whole.whole_runs_mirror.Goals as goal

pub returns : goal.returns
returns c = whole_runs_mirror
