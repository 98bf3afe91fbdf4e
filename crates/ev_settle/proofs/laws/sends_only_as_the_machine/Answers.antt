use Rattle.ev_settle.proofs.Sends.{sends_only}
use Rattle.ev_settle.proofs.laws.sends_only_as_the_machine.Goals as goal

pub returns : goal.returns
returns c = λ ts key line s i act x verb args tells good. sends_only ts key line s tells act x verb args i good
