-- What a vat sees as its own on a connection, before a step and after it.
use Rattle.std.specs.Prelude.{◌≡◌, ℕ, Bool, true, false, List, [], ◌∷◌, get_or}
use Rattle.def_machine.specs.Values.{Local, same_local}
use Rattle.def_machine.specs.State as machine
use Rattle.def_run.specs.Connections.{Connection}
use Rattle.def_run.specs.Vats.{is_own, unconnected}

unfoldable pub among : List Local → Local → Bool
among [] n = false
among (m ∷ ms) n = elim (same_local m n) [ true ↦ true | false ↦ among ms n ]

-- whether something has a number on a connection
unfoldable pub has_number : Connection Local → Local → Bool
has_number c n = elim (among c.exports n) [
  | true ↦ true
  | false ↦ elim (among c.answers n) [ true ↦ true | false ↦ elim (among c.questions n) [ true ↦ true | false ↦ among c.imports n ] ]
]

-- what has a number on a connection is the vat's own after a step where it was before
abbrev pub SeesAsBefore : machine.Vat Local → machine.Vat Local → List (Connection Local) → Type 0
SeesAsBefore s t cs = (v : ℕ) (n : Local) → has_number (get_or cs v unconnected) n ≡ true → is_own t.number t.known n ≡ is_own s.number s.known n
