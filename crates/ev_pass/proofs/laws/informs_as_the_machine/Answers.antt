use Rattle.ev_pass.proofs.Delivers.{informs}
use Rattle.ev_pass.proofs.laws.informs_as_the_machine.Goals as goal

pub returns : goal.returns
returns c = λ ts key line s i p w good. informs ts key line s p w i good
