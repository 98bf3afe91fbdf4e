-- What is still to be compared, and what was found so far, are all.
use Rattle.std.proofs.Common.{◌≡◌, ℕ, drop}
use Rattle.std.specs.Prelude.{◌&&◌}
use Rattle.ev_steps.specs.Layers.{all_alike}
use Rattle.ev_steps.specs.Same.{all_same, is_same}
use Rattle.ev_steps.proofs.same.compare_each.Given as goal

abbrev pub invariant-loop-index : goal.invariant-loop-index
invariant-loop-index l = (d : ℕ) → (all_same (λ v w. is_same l.room d v w) l.xs l.ys && all_alike l.room d l.initial.next.keys)
    ≡ (all_same (λ v w. is_same l.room d v w) (drop l.index l.xs) (drop l.index l.ys) && all_alike l.room d l.next.keys)
