use Rattle.law_uses.proofs.Running.Ran.{lines_tell_what_runs}
use Rattle.law_uses.proofs.lines_tell_what_runs.Goals as goal

pub returns : goal.returns
returns c = lines_tell_what_runs
