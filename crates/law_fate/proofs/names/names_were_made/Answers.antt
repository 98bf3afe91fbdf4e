use Rattle.law_fate.proofs.Name.Laws.{names_made}
use Rattle.law_fate.proofs.names.names_were_made.Goals as goal

pub returns : goal.returns
returns c = names_made
