-- The first seeds spread.
use Rattle.ev_order.proofs.Labelling.{Labelling}
use Rattle.ev_order.proofs.spread.spread_all.Given as goal

abbrev pub invariant-loop-label : goal.invariant-loop-label
invariant-loop-label l = Labelling l.places l.seeds l.labels l.label
