use Rattle.law_schedule.proofs.Empty.{no_vat_takes_none}
use Rattle.law_schedule.proofs.no_vat_takes_none.Goals as goal

pub returns : goal.returns
returns c = no_vat_takes_none
