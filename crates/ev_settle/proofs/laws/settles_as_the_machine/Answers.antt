use Rattle.ev_settle.proofs.Performs.{settles_is}
use Rattle.ev_settle.proofs.laws.settles_as_the_machine.Goals as goal

pub returns : goal.returns
returns c = λ ts key line s i p v tells good. settles_is ts key line s tells p v i good
