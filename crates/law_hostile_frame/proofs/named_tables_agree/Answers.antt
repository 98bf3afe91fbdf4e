use Rattle.law_hostile_frame.proofs.Counts.{named_tables_agree}
use Rattle.law_hostile_frame.proofs.named_tables_agree.Goals as goal

pub returns : goal.returns
returns c = named_tables_agree
