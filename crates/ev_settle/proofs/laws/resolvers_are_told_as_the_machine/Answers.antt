use Rattle.ev_settle.proofs.Reacts.{tells_is}
use Rattle.ev_settle.proofs.laws.resolvers_are_told_as_the_machine.Goals as goal

pub returns : goal.returns
returns c = λ ts key line s i tree p x tells good. tells_is ts key line s tells tree p x i good
