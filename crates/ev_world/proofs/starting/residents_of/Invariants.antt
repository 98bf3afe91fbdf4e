use Rattle.ev_world.specs.Starting.{AreStarted}
use Rattle.ev_world.proofs.starting.residents_of.Given as goal

abbrev pub invariant-loop-place : goal.invariant-loop-place
invariant-loop-place l = AreStarted l.fn.script l.place l.residents.items
