use Rattle.law_fate.proofs.Name.Laws.{tables_apart}
use Rattle.law_fate.proofs.names.tables_are_apart.Goals as goal

pub returns : goal.returns
returns c = tables_apart
