-- The label spread up to the place that is reached as number `at`, and each label makes one free place less.
use Rattle.std.proofs.Common.{◌+◌, ◌-◌, ◌<◌, length}
use Rattle.ev_order.specs.Spread.{IsLabelled}
use Rattle.ev_order.proofs.Spreading.{Spreading, free_places}
use Rattle.ev_order.proofs.spread.spread.Given as goal

abbrev pub invariant-loop-at : goal.invariant-loop-at
invariant-loop-at l = Spreading l.places l.seed l.label l.fn.labels l.labels l.reached.items l.at × (l.seed < length l.places → IsLabelled l.labels l.seed)

abbrev pub decreases-loop-at : goal.decreases-loop-at
decreases-loop-at l = free_places l.labels + length l.reached.items - l.at
