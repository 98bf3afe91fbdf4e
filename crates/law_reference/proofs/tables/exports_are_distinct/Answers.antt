use Rattle.law_reference.proofs.Reference.NameTableLaws.{exports_are_distinct}
use Rattle.law_reference.proofs.tables.exports_are_distinct.Goals as goal

pub returns : goal.returns
returns c = exports_are_distinct
