-- Each message stands once at most in the ways of a run.
use Rattle.std.specs.Prelude.{ℕ, Bool}
use Rattle.def_machine.specs.Values.{Name}
use Rattle.def_run.specs.World.{Script}
use Rattle.law_order.specs.Ordering.Messages.{StandsOnce}
use Rattle.law_order.specs.Ordering.Places.{ways}
use Rattle.law_order.specs.Runs.Beginnings.{InRunsOf}

-- In every world of a run each message stands in one lane at most, and there once.
abbrev pub MessagesStandOnce : Type 0
MessagesStandOnce = (script : Script) → InRunsOf script (λ w. (honest : ℕ → Bool) (m : Name) → StandsOnce (ways script honest w) m)
