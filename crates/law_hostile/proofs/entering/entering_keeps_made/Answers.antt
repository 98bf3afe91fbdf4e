use Rattle.law_hostile.proofs.EnteredNames.{keeps_made}
use Rattle.law_hostile.proofs.entering.entering_keeps_made.Goals as goal

pub returns : goal.returns
returns c = keeps_made
