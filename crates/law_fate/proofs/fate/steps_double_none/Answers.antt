use Rattle.law_fate.proofs.Fates.TurnAccount.{steps_double_none}
use Rattle.law_fate.proofs.fate.steps_double_none.Goals as goal

pub returns : goal.returns
returns c = steps_double_none
