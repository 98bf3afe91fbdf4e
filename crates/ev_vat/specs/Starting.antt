-- What a vat has for its peers at the start of a run.
use Rattle.std.specs.Prelude.{ℕ, zero, suc, ◌==◌, Bool, true, false, if◌then◌else◌, List, [], ◌∷◌, Option, Some, None}
use Rattle.def_run.specs.Names.{Names}
use Rattle.def_run.specs.Numbers.{root_number}
use Rattle.def_run.specs.Vats.{Member as Theirs, unconnected}
use Rattle.def_machine.specs.State.{is_in}
use Rattle.def_machine.specs.Values.{Local, Prom}
use Rattle.def_run.specs.Connections.{Connection}
use Rattle.ev_base.specs.declared.values.Value.TheVariants as held
use Rattle.ev_tables.specs.Table.{Table, exported, fresh, imported}
use Rattle.ev_vat.specs.Rooted as rooted

-- ---- in the code's terms

-- the number of the root of a vat among the roots of these, from that number on
unfoldable pub root_in : ℕ → ℕ → List ℕ → Option ℕ
root_in k v [] = None
root_in k v (w ∷ ws) = if w == v then Some k else root_in (suc k) v ws

abbrev pub imported_if : Option ℕ → Table → Table
imported_if (Some n) t = imported (held.Prom n) t
imported_if None t = t

abbrev pub exported_if : Bool → Table → Table
exported_if b t = if b then exported (held.Prom 0) t else t

-- what vat u has for vat v, where it knows these and is known by those
unfoldable pub first_table : ℕ → ℕ → List ℕ → List ℕ → Table
first_table u v knows known_by = if u == v then fresh v else imported_if (root_in 1 v knows) (exported_if (is_in v known_by) (fresh v))

-- for so many vats, from v on
unfoldable pub first_tables : ℕ → ℕ → ℕ → List ℕ → List ℕ → List Table
first_tables u v zero knows known_by = []
first_tables u v (suc n) knows known_by = first_table u v knows known_by ∷ first_tables u (suc v) n knows known_by

-- ---- in the machine's

unfoldable pub first_connection : ℕ → ℕ → List ℕ → List ℕ → Connection Local
first_connection u v knows known_by = elim (u == v) [
  | true ↦ unconnected
  | false ↦ record { exports = elim (is_in v known_by) [ true ↦ Prom zero ∷ [] | false ↦ [] ]; imports = root_number 1 v knows; questions = []; answers = [] }
]

unfoldable pub first_connections : ℕ → ℕ → ℕ → List ℕ → List ℕ → List (Connection Local)
first_connections u v zero knows known_by = []
first_connections u v (suc n) knows known_by = first_connection u v knows known_by ∷ first_connections u (suc v) n knows known_by

-- a member of a run of so many vats at its start, which knows the roots of these vats and is known by those
abbrev pub rooted_member : ℕ → ℕ → ℕ → List ℕ → List ℕ → Names → Theirs
rooted_member fuel u count knows known_by t = record { vat = rooted.fresh u fuel knows known_by; learnt = []; connections = first_connections u zero count knows known_by; names = t }
