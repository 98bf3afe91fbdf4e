use Rattle.law_fate.proofs.Name.Laws.{next_new}
use Rattle.law_fate.proofs.names.next_names_are_new.Goals as goal

pub returns : goal.returns
returns c = next_new
