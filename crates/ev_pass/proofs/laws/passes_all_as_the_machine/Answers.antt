use Rattle.ev_pass.proofs.Machine.{passes_all}
use Rattle.ev_pass.proofs.laws.passes_all_as_the_machine.Goals as goal

pub returns : goal.returns
returns c = λ ts key line s i w vs good. passes_all ts key line s w vs i good
