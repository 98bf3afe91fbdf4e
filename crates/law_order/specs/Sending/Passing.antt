-- What a vat has in hand can pass as a step of it begins.
use Rattle.std.specs.Prelude.{◌≡◌, ℕ, Bool, List, Some, slice_get}
use Rattle.def_machine.specs.Values.{Name}
use Rattle.def_machine.specs.State.{Message, Vat}
use Rattle.def_run.specs.World.{Script, World, readied}
use Rattle.law_fate.specs.Name.Runs.{KnowsOnce}
use Rattle.law_order.specs.History.Passings.{CanPass}
use Rattle.law_order.specs.History.Told.{IsOfRun}

-- In each world that a run comes to each vat can pass what it has in hand to each other vat, as its next step begins, whatever is left of its queue.
abbrev pub VatsCanPass : Type 0
VatsCanPass = (script : Script) → KnowsOnce script → (honest : ℕ → Bool) (w : World) → IsOfRun script w → (v : ℕ) (r : Vat Name) → slice_get w.vats v ≡ Some r → (ms : List (Message Name)) → (h : ℕ) (t : Vat Name) → (h ≡ v → ⊥) → slice_get w.vats h ≡ Some t
    → CanPass script honest w v h t (readied w (record r { queue = ms }))
