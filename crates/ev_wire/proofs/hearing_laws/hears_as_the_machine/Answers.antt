use Rattle.ev_wire.proofs.HearingMachine.{hears}
use Rattle.ev_wire.proofs.hearing_laws.hears_as_the_machine.Goals as goal

pub returns : goal.returns
returns c = hears
