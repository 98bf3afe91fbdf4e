use Rattle.law_fate.proofs.Fates.RunFates.{one_fate_at_most}
use Rattle.law_fate.proofs.fate.one_fate_at_most.Goals as goal

pub returns : goal.returns
returns c = one_fate_at_most
