use Rattle.ev_wire.proofs.peer_laws.writes_all.Goals as goal
use Rattle.ev_wire.proofs.Writes.{writes_all}

pub returns : goal.returns
returns c = writes_all
