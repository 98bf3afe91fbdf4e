-- What a vat has for its peers, as it is to be.
use Rattle.std.specs.Prelude.{◌≡◌, ℕ, false, List, Some, map, slice_get}
use Rattle.def_machine.specs.State as machine
use Rattle.def_machine.specs.Values.{Words, Local}
use Rattle.def_run.specs.Connections.{Connection}
use Rattle.ev_tables.specs.Standing.{IsKept, connection_of}
use Rattle.ev_refs.specs.Reading.{knowns_by}
use Rattle.ev_refs.specs.References.{References}
use Rattle.ev_tables.specs.Table.{Table}
use Rattle.ev_wire.specs.Writing.{is_mine}

-- a connection to vat v is open, and each reference is found by the number that came first
pub record IsFor (r : References) (v : ℕ) (t : Table) : Type 0 where
  pub peer : t.peer ≡ v
  pub is_open : t.is_closed ≡ false
  pub kept : IsKept (is_mine r) t

-- each connection stands at the number of its peer
abbrev pub AreFor : References → List Table → Type 0
AreFor r ts = (v : ℕ) (t : Table) → slice_get ts v ≡ Some t → IsFor r v t

abbrev pub connections_of : List Table → List (Connection Local)
connections_of ts = map connection_of ts

-- the references of a vat of the machine are these, where the texts of its values are those
pub record HasReferences (texts : List Words) (r : References) (s : machine.Vat Local) : Type 0 where
  pub number : s.number ≡ r.me
  pub known : s.known ≡ knowns_by texts 0 r.known
