-- Whether a part is unsettled is told by the lists of the layer.
use Rattle.std.proofs.Common.{◌≡◌, length}
use Rattle.ev_steps.specs.Layers.{any_open}
use Rattle.ev_steps.specs.Same.{is_open}
use Rattle.ev_steps.proofs.open.is_open.Given as goal

abbrev pub invariant-loop-depth : goal.invariant-loop-depth
invariant-loop-depth l = is_open l.room (length l.room.heap.lists) l.fn.value ≡ any_open l.room l.depth l.lists.keys

abbrev pub decreases-loop-depth : goal.decreases-loop-depth
decreases-loop-depth l = l.depth
