use Rattle.ev_arrive.proofs.Arrives.{settled_is}
use Rattle.ev_arrive.proofs.receiving_laws.settles_as_the_machine.Goals as goal

pub returns : goal.returns
returns c = λ ts key line s h n from x b tells lists good. settled_is ts key line s tells lists n from x b h good
