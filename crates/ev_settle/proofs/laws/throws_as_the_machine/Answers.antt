use Rattle.ev_settle.proofs.Closes.{throws_is}
use Rattle.ev_settle.proofs.laws.throws_as_the_machine.Goals as goal

pub returns : goal.returns
returns c = λ ts key line s i tree act o v tells good. throws_is ts key line s tells tree act o v i good
