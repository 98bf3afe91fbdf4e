use Rattle.law_lawful.proofs.Reached.{tables_ends}
use Rattle.law_lawful.proofs.tables_name_their_ends.Goals as goal

pub returns : goal.returns
returns c = tables_ends
