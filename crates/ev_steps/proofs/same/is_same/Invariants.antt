-- Whether they are the same is told by the pairs of the layer.
use Rattle.std.proofs.Common.{◌≡◌, length}
use Rattle.ev_steps.specs.Layers.{all_alike}
use Rattle.ev_steps.specs.Same.{is_same}
use Rattle.ev_steps.proofs.same.is_same.Given as goal

abbrev pub invariant-loop-pairs : goal.invariant-loop-pairs
invariant-loop-pairs l = is_same l.room (length l.room.heap.lists) l.fn.x l.fn.y ≡ all_alike l.room l.depth l.pairs.keys

abbrev pub decreases-loop-pairs : goal.decreases-loop-pairs
decreases-loop-pairs l = l.depth
