use Rattle.ev_world.specs.Exporting.{AreCounted}
use Rattle.ev_world.proofs.exporting.exports_of.Given as goal

abbrev pub invariant-loop-peer : goal.invariant-loop-peer
invariant-loop-peer l = AreCounted l.member l.peer l.counts.items
