use Rattle.ev_arrive.proofs.Opens.{asks_is}
use Rattle.ev_arrive.proofs.laws.is_asked_as_the_machine.Goals as goal

pub returns : goal.returns
returns c = λ ts key line s h w p i tells good. asks_is ts key line s tells w p i h good
