use Rattle.ev_arrive.proofs.Notices.{notices_is}
use Rattle.ev_arrive.proofs.laws.notices_as_the_machine.Goals as goal

pub returns : goal.returns
returns c = λ ts key line s h w tells good. notices_is ts key line s tells w h good
