use Rattle.law_read.proofs.ReadScripts.ReadTexts.{read_runs_are_bounded}
use Rattle.law_read.proofs.telling.read_runs_are_bounded.Goals as goal

pub returns : goal.returns
returns c = read_runs_are_bounded
