-- The nodes so far are copied.
use Rattle.std.proofs.Common.{◌≡◌, take}
use Rattle.ev_piece.proofs.copy.copied.Given as goal

abbrev pub invariant-loop-item : goal.invariant-loop-item
invariant-loop-item l = l.copy ≡ take l.item-index l.nodes
