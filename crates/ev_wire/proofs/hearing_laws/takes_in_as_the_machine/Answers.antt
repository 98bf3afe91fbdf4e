use Rattle.ev_wire.proofs.TakenIn.{takes_in}
use Rattle.ev_wire.proofs.hearing_laws.takes_in_as_the_machine.Goals as goal

pub returns : goal.returns
returns c = takes_in
