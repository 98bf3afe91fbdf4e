-- The nodes so far have their numbers.
use Rattle.std.proofs.Common.{◌≡◌, length}
use Rattle.ev_piece.specs.Placed.{placed}
use Rattle.ev_piece.proofs.placing.placed.Given as goal

abbrev pub invariant-loop-node : goal.invariant-loop-node
invariant-loop-node l = (l.made ≡ placed 0 l.yielded) × (l.at ≡ length l.yielded)
