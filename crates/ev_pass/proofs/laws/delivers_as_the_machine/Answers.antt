use Rattle.ev_pass.proofs.Delivers.{delivers}
use Rattle.ev_pass.proofs.laws.delivers_as_the_machine.Goals as goal

pub returns : goal.returns
returns c = λ ts key line s i m a verb args h x target good posts. delivers ts key line s m a verb args h x target i good posts
