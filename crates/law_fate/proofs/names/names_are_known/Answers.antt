use Rattle.law_fate.proofs.Name.Laws.{names_known}
use Rattle.law_fate.proofs.names.names_are_known.Goals as goal

pub returns : goal.returns
returns c = names_known
