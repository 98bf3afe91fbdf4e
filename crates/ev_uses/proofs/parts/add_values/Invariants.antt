-- What is left and what was added so far are all.
use Rattle.std.proofs.Common.{[]}
use Rattle.ev_event.specs.Pending.{open_weight}
use Rattle.ev_uses.specs.Left.{Leaves}
use Rattle.ev_uses.proofs.parts.add_values.Given as goal

abbrev pub invariant-loop-rest : goal.invariant-loop-rest
invariant-loop-rest l = Leaves l.values l.fn.labels [] l.labels l.lists.items

abbrev pub decreases-loop-rest : goal.decreases-loop-rest
decreases-loop-rest l = open_weight l.lists.items
