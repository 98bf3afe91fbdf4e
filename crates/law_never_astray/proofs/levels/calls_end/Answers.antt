use Rattle.law_never_astray.proofs.CallChains.{calls_end}
use Rattle.law_never_astray.proofs.levels.calls_end.Goals as goal

pub returns : goal.returns
returns c = calls_end
