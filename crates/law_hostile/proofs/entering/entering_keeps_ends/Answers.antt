use Rattle.law_hostile.proofs.EnteredNames.{keeps_ends}
use Rattle.law_hostile.proofs.entering.entering_keeps_ends.Goals as goal

pub returns : goal.returns
returns c = keeps_ends
