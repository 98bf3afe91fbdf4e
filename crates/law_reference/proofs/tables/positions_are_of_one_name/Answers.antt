use Rattle.law_reference.proofs.Reference.NameTableLaws.{positions_are_of_one_name}
use Rattle.law_reference.proofs.tables.positions_are_of_one_name.Goals as goal

pub returns : goal.returns
returns c = positions_are_of_one_name
