use Rattle.law_never_astray.proofs.Settling.{settlings_end}
use Rattle.law_never_astray.proofs.astray.settlings_end.Goals as goal

pub returns : goal.returns
returns c = settlings_end
