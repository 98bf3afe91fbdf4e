use Rattle.ev_wire.proofs.peer_laws.stays_for.Goals as goal
use Rattle.ev_wire.proofs.Stays.{stays_for}

pub returns : goal.returns
returns c = stays_for
