use Rattle.law_reference.proofs.Reference.ApartWhole.{have_tables}
use Rattle.law_reference.proofs.apart.each_vat_has_its_table.Goals as goal

pub returns : goal.returns
returns c = have_tables
