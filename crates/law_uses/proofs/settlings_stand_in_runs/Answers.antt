use Rattle.law_uses.proofs.Running.Stood.{settlings_stand}
use Rattle.law_uses.proofs.settlings_stand_in_runs.Goals as goal

pub returns : goal.returns
returns c = settlings_stand
