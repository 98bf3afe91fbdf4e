use Rattle.ev_refs.proofs.Machine.{follow_is}
use Rattle.ev_refs.proofs.laws.follows_as_the_machine.Goals as goal

pub returns : goal.returns
returns c = λ word ts r s v h. follow_is word ts r s v h
