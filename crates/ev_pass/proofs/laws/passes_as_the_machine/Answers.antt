use Rattle.ev_pass.proofs.Machine.{passes}
use Rattle.ev_pass.proofs.laws.passes_as_the_machine.Goals as goal

pub returns : goal.returns
returns c = λ ts key line s i w v good. passes ts key line s w v i good
