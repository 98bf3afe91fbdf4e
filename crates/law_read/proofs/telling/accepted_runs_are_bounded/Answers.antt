use Rattle.law_read.proofs.ReadScripts.Bounded.{bounded}
use Rattle.law_read.proofs.telling.accepted_runs_are_bounded.Goals as goal

pub returns : goal.returns
returns c = bounded
