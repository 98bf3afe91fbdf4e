use Rattle.ev_tables.proofs.Kept.{asking as law}
use Rattle.ev_tables.proofs.laws.asking_keeps.Goals as goal

pub returns : goal.returns
returns c = law
