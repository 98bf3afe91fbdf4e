use Rattle.ev_tables.proofs.Kept.{begins as law}
use Rattle.ev_tables.proofs.laws.begins_kept.Goals as goal

pub returns : goal.returns
returns c = law
