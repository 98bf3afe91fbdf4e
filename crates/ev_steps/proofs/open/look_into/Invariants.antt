-- What is still to be looked at, and what was found so far, are all.
use Rattle.std.proofs.Common.{◌≡◌, ℕ, drop}
use Rattle.std.specs.Prelude.{◌||◌}
use Rattle.ev_steps.specs.Layers.{any_open, any_within}
use Rattle.ev_steps.proofs.open.look_into.Given as goal

abbrev pub invariant-loop-list : goal.invariant-loop-list
invariant-loop-list l = (d : ℕ) → (any_within l.room d l.lists || any_open l.room d l.initial.next.keys)
    ≡ (any_within l.room d (drop l.list-index l.lists) || any_open l.room d l.next.keys)
