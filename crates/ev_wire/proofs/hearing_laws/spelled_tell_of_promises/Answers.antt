use Rattle.ev_wire.proofs.Agreement.{promises as law}
use Rattle.ev_wire.proofs.hearing_laws.spelled_tell_of_promises.Goals as goal

pub returns : goal.returns
returns c = law
