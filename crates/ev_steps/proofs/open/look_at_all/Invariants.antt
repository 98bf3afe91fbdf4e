-- What is still to be looked at, and what was found so far, are all.
use Rattle.std.proofs.Common.{◌≡◌, ℕ, drop}
use Rattle.std.specs.Prelude.{◌||◌}
use Rattle.ev_steps.specs.Layers.{any_open}
use Rattle.ev_steps.specs.Same.{any_of, is_open}
use Rattle.ev_steps.proofs.open.look_at_all.Given as goal

abbrev pub invariant-loop-value : goal.invariant-loop-value
invariant-loop-value l = (d : ℕ) → (any_of (λ v. is_open l.room d v) l.values || any_open l.room d l.initial.next.keys)
    ≡ (any_of (λ v. is_open l.room d v) (drop l.value-index l.values) || any_open l.room d l.next.keys)
