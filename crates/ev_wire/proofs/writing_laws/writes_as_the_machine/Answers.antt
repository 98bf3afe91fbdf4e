use Rattle.ev_wire.proofs.WritingMachine.{writes}
use Rattle.ev_wire.proofs.writing_laws.writes_as_the_machine.Goals as goal

pub returns : goal.returns
returns c = writes
