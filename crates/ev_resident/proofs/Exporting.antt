-- What a vat exported to a peer, in the code and in the run.
use Rattle.std.proofs.Common.{◌≡◌, ℕ, List, get_or, sym, ap, ◌∙◌}
use Rattle.def_run.specs.Vats.{Member as Theirs, connection_for, unconnected}
use Rattle.def_machine.specs.Values.{Local}
use Rattle.def_run.specs.Connections.{Connection}
use Rattle.ev_vat.specs.Standing.{IsMember}
use Rattle.ev_vat.specs.declared.member.Member.{Member}
use Rattle.ev_tables.specs.Standing.{AreReferences, connection_of}
use Rattle.ev_wire.specs.Putting.{table_for}
use Rattle.ev_wire.proofs.Writes.{connection_is, table_is}

pub connection_between : (m : Theirs) (c : Member) → IsMember m c → (u : ℕ) → connection_for u m ≡ connection_of (table_for u c.connections.items)
unfolding connection_for
connection_between m c is u = ap (λ (cs : List (Connection Local)). get_or cs u unconnected) (sym is.rest.connections) ∙ connection_is c.connections.items u

pub exports_refer : (m : Theirs) (c : Member) → IsMember m c → (u : ℕ) → AreReferences (table_for u c.connections.items).exports
exports_refer m c is u = (table_is c.vat.host.inside.refs c.connections.items u is.rest.tables).kept.exports
