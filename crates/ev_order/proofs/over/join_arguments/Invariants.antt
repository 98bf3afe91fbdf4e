-- The first arguments lead over.
use Rattle.std.proofs.Common.{◌<◌}
use Rattle.ev_order.specs.Over.{IsJoin, Joins}
use Rattle.ev_order.proofs.over.join_arguments.Given as goal

abbrev pub invariant-loop-k : goal.invariant-loop-k
invariant-loop-k l = Joins (λ i j. (o : IsJoin l.references l.sent l.carried i j) × (o.argument < l.k)) l.fn.places l.places
