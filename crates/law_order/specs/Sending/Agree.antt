-- What a vat has agrees with what the history of the run tells by any time.
use Rattle.std.specs.Prelude.{◌≡◌, ℕ, Some, slice_get}
use Rattle.def_machine.specs.Values.{Name}
use Rattle.def_machine.specs.State.{Vat}
use Rattle.def_run.specs.World.{Script, World, names}
use Rattle.law_machine.specs.Machine.Laws.{SameLists, SettledStays}
use Rattle.law_order.specs.History.Told.{IsOfRun}
use Rattle.law_order.specs.Sending.Came.{Agrees}

-- So does each vat of each world that a run comes to.
abbrev pub WorldsAgree : Type 0
WorldsAgree = (script : Script) (w : World) → IsOfRun script w → (v : ℕ) (s : Vat Name) → slice_get w.vats v ≡ Some s → Agrees script v s

-- And each state from which it came to such a state, by acts that leave its lists and what settled.
abbrev pub EarlierStatesAgree : Type 0
EarlierStatesAgree = (script : Script) (v : ℕ) (s t : Vat Name) → SameLists s t → SettledStays (names script v) s t → Agrees script v t → Agrees script v s
