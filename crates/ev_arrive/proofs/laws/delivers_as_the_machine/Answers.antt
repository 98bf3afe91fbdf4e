use Rattle.ev_arrive.proofs.Delivers.{delivers_is}
use Rattle.ev_arrive.proofs.laws.delivers_as_the_machine.Goals as goal

pub returns : goal.returns
returns c = λ ts key line s h from id asks r verb args tells good. delivers_is ts key line s tells from id asks r verb args h good
