-- Those so far, and then the rest, are all.
use Rattle.std.proofs.Common.{◌≡◌, ◌++◌, ◌-◌}
use Rattle.ev_vat.specs.Starting.{first_tables}
use Rattle.ev_vat.proofs.starting.first_connections.Given as goal

abbrev pub invariant-loop-peer : goal.invariant-loop-peer
invariant-loop-peer l = l.connections.items ++ first_tables l.me l.peer (l.count - l.peer) l.knows l.known_by ≡ first_tables l.me 0 l.count l.knows l.known_by
