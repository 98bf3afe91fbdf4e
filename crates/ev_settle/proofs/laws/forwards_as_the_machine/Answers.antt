use Rattle.ev_settle.proofs.Performs.{forwards_is}
use Rattle.ev_settle.proofs.laws.forwards_as_the_machine.Goals as goal

pub returns : goal.returns
returns c = λ ts key line s i m tells good. forwards_is ts key line s tells m i good
