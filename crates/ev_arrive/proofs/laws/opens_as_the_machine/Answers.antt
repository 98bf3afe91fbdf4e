use Rattle.ev_arrive.proofs.Opens.{opens_is}
use Rattle.ev_arrive.proofs.laws.opens_as_the_machine.Goals as goal

pub returns : goal.returns
returns c = λ ts key line s h from i n x tells good. opens_is ts key line s tells from i n x h good
