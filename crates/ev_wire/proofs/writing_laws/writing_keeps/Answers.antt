use Rattle.ev_wire.proofs.WritingMachine.{keeps}
use Rattle.ev_wire.proofs.writing_laws.writing_keeps.Goals as goal

pub returns : goal.returns
returns c = keeps
