use Rattle.ev_tables.proofs.Kept.{answering as law}
use Rattle.ev_tables.proofs.laws.answering_keeps.Goals as goal

pub returns : goal.returns
returns c = law
