use Rattle.std.proofs.Common.{◌≡◌, ◌++◌, length}
use Rattle.ev_ways.specs.Telling.{left_labels}
use Rattle.ev_ways.proofs.telling.tell_left.Given as goal

abbrev pub invariant-loop-label : goal.invariant-loop-label
invariant-loop-label l = l.history ++ left_labels l.from l.to l.labels.items ≡ l.initial.history ++ left_labels l.from l.to l.initial.labels.items

abbrev pub decreases-loop-label : goal.decreases-loop-label
decreases-loop-label l = length l.labels.items
