-- As the first message of a queue is taken, that is a small step.
use Rattle.std.specs.Prelude.{◌≡◌, ℕ, suc, Bool, List, [], ◌∷◌, ◌++◌, Some, slice_get}
use Rattle.def_machine.specs.Values.{Name}
use Rattle.def_machine.specs.State.{Message, Took, Vat}
use Rattle.def_run.specs.World.{Script, Event, World}
use Rattle.law_machine.specs.Run.Moves.{went}
use Rattle.law_order.specs.History.Tells.{SmallStep}

-- the vat once the message is taken by that activation, and those are left of its queue
abbrev pub taken_state : ℕ → Message Name → List (Message Name) → Vat Name → Vat Name
taken_state act m ms s = record s { activations = suc s.activations; queue = ms; happened = s.happened ++ Took act m ∷ [] }

abbrev pub TakesAreSmallSteps : Type 0
TakesAreSmallSteps = (script : Script) (honest : ℕ → Bool) (w : World) (v act : ℕ) (head : List Event) (r s : Vat Name) (m : Message Name) (ms : List (Message Name)) → slice_get w.vats v ≡ Some r → s.queue ≡ m ∷ ms
    → SmallStep script honest (went v w head s) (went v w head (taken_state act m ms s))
