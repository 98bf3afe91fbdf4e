use Rattle.law_hostile_tables.proofs.Tables.{tables_kinds}
use Rattle.law_hostile_tables.proofs.tables_are_of_their_kinds.Goals as goal

pub returns : goal.returns
returns c = tables_kinds
