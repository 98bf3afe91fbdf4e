use Rattle.std.proofs.Common.{◌≡◌, ◌++◌, length}
use Rattle.ev_ways.specs.Telling.{lost_labels}
use Rattle.ev_ways.proofs.telling.tell_lost.Given as goal

abbrev pub invariant-loop-label : goal.invariant-loop-label
invariant-loop-label l = l.history ++ lost_labels l.labels.items ≡ l.initial.history ++ lost_labels l.initial.labels.items

abbrev pub decreases-loop-label : goal.decreases-loop-label
decreases-loop-label l = length l.labels.items
