-- The arguments of the first messages lead over.
use Rattle.std.proofs.Common.{◌<◌}
use Rattle.ev_order.specs.Over.{IsJoined, Joins}
use Rattle.ev_order.proofs.over.join_all.Given as goal

abbrev pub invariant-loop-number : goal.invariant-loop-number
invariant-loop-number l = Joins (λ i j. (o : IsJoined l.references l.sent l.carried i j) × (o.number < l.number)) l.fn.places l.places
