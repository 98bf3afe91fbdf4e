use Rattle.ev_settle.proofs.Sends.{resolves_is}
use Rattle.ev_settle.proofs.laws.resolves_as_the_machine.Goals as goal

pub returns : goal.returns
returns c = λ ts key line s i p x tells good. resolves_is ts key line s tells p x i good
