use Rattle.ev_arrive.proofs.Viewings.{elsewhere_is}
use Rattle.ev_arrive.proofs.laws.settles_elsewhere_as_the_machine.Goals as goal

pub returns : goal.returns
returns c = λ ts key line s h n x c tells good. elsewhere_is ts key line s tells n x c h good
