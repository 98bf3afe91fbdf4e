use Rattle.law_reference.proofs.Reference.VatTables.{tables_tell_things_apart}
use Rattle.law_reference.proofs.tables.tables_tell_things_apart.Goals as goal

pub returns : goal.returns
returns c = tables_tell_things_apart
