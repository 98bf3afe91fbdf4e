-- What is still to be compared, and what was found so far, are all.
use Rattle.std.proofs.Common.{◌≡◌, ℕ, drop}
use Rattle.std.specs.Prelude.{◌&&◌}
use Rattle.ev_steps.specs.Layers.{all_alike, all_within}
use Rattle.ev_steps.proofs.same.compare_layer.Given as goal

abbrev pub invariant-loop-pair : goal.invariant-loop-pair
invariant-loop-pair l = (d : ℕ) → (all_within l.room d l.pairs && all_alike l.room d l.initial.next.keys)
    ≡ (all_within l.room d (drop l.pair-index l.pairs) && all_alike l.room d l.next.keys)
