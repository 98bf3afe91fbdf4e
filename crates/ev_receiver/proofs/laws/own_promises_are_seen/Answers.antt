use Rattle.ev_receiver.proofs.Seen.{own_promises_seen}
use Rattle.ev_receiver.proofs.laws.own_promises_are_seen.Goals as goal

pub returns : goal.returns
returns c = own_promises_seen
