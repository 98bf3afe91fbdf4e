use Rattle.ev_arrive.proofs.Viewings.{shortens_is}
use Rattle.ev_arrive.proofs.laws.shortens_as_the_machine.Goals as goal

pub returns : goal.returns
returns c = λ ts key line s h n x i good. shortens_is ts key line s n x i h good
