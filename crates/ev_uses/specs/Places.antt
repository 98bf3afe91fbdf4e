-- Places by messages, in the terms of a table.
use Rattle.std.specs.Prelude.{◌≡◌, ℕ, Bool, true, false, cond, List, Option, Some, None, is_some}
use Rattle.std.specs.Map.{lookup}
use Rattle.ev_base.specs.declared.names.Msg.{Msg}
use Rattle.ev_base.specs.contracts.names.MsgPartialEq.TheImpl.{eq-value}

abbrev pub Table : Type 0
Table = List (Msg × ℕ)

-- the place of a message
unfoldable pub place_in : Table → Msg → Option ℕ
place_in es m = lookup (eq-value.it m) es

abbrev pub Puts : Msg → ℕ → Table → Table → Type 0
Puts m i old new = (q : Msg) → place_in new q ≡ cond (eq-value.it m q) (Some i) (place_in old q)

-- put, unless there is one
abbrev pub Notes : Msg → ℕ → Bool → Table → Table → Type 0
Notes m i true old new = new ≡ old
Notes m i false old new = Puts m i old new

abbrev pub PutsFor : Option Msg → ℕ → Table → Table → Type 0
PutsFor None i old new = new ≡ old
PutsFor (Some m) i old new = Puts m i old new

abbrev pub NotesFor : Option Msg → ℕ → Table → Table → Type 0
NotesFor None i old new = new ≡ old
NotesFor (Some m) i old new = Notes m i (is_some (place_in old m)) old new
