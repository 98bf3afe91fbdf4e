use Rattle.ev_tables.proofs.Described.{describes as law}
use Rattle.ev_tables.proofs.laws.describes_as_the_machine.Goals as goal

pub returns : goal.returns
returns c = law
