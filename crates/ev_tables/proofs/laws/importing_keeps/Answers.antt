use Rattle.ev_tables.proofs.Kept.{importing as law}
use Rattle.ev_tables.proofs.laws.importing_keeps.Goals as goal

pub returns : goal.returns
returns c = law
