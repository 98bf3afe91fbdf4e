use Rattle.ev_wire.proofs.Agreement.{agrees as law}
use Rattle.ev_wire.proofs.hearing_laws.is_received.Goals as goal

pub returns : goal.returns
returns c = law
