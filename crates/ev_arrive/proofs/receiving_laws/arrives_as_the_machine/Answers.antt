use Rattle.ev_arrive.proofs.Arrives.{arrives_is}
use Rattle.ev_arrive.proofs.receiving_laws.arrives_as_the_machine.Goals as goal

pub returns : goal.returns
returns c = λ ts key line s h n x c from note tells lists good. arrives_is ts key line s tells lists n x c from note h good
