-- A reaction, as an object is to react on a value, is a small step.
use Rattle.std.specs.Prelude.{◌≡◌, ℕ, Bool, false, List, Some, slice_get}
use Rattle.def_machine.specs.Values.{Value, Name, Sent}
use Rattle.def_machine.specs.State.{Vat}
use Rattle.def_machine.specs.Refs.{react}
use Rattle.def_run.specs.World.{Script, Event, World, names}
use Rattle.law_machine.specs.Run.Moves.{went}
use Rattle.law_order.specs.Ordering.Worlds.{IfGives}
use Rattle.law_order.specs.Ordering.Steps.{Ready}
use Rattle.law_order.specs.History.Lines.{was_sent}
use Rattle.law_order.specs.History.Tells.{SmallStep}

-- It asks that the vat is ready and that the history tells of no send of the message that the vat numbers next.
abbrev pub ReactionsAreSmallSteps : Type 0
ReactionsAreSmallSteps = (script : Script) (honest : ℕ → Bool) (w : World) (v act : ℕ) (head : List Event) (r s : Vat Name) (x o near : Value Name) → slice_get w.vats v ≡ Some r → Ready script honest w v s
    → was_sent (Sent (record { sender = v; number = s.messages })) (went v w head s).history ≡ false
    → IfGives (λ t. SmallStep script honest (went v w head s) (went v w head t)) (react (names script v) act x o near s)
