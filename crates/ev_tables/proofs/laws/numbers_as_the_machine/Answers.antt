use Rattle.ev_tables.proofs.Numbered.{numbers as law}
use Rattle.ev_tables.proofs.laws.numbers_as_the_machine.Goals as goal

pub returns : goal.returns
returns c = law
