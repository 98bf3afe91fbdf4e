use Rattle.ev_settle.proofs.Reacts.{whens_is}
use Rattle.ev_settle.proofs.laws.whens_as_the_machine.Goals as goal

pub returns : goal.returns
returns c = λ ts key line s i tree act x o tells good. whens_is ts key line s tells act x o tree i good
