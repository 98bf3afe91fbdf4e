use Rattle.law_never_astray.proofs.CoveredWorlds.{all_carry_in_runs}
use Rattle.law_never_astray.proofs.covered.all_carry_in_runs.Goals as goal

pub returns : goal.returns
returns c = all_carry_in_runs
