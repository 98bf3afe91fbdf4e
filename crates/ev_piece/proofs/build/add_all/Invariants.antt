-- The pieces so far are added.
use Rattle.std.proofs.Common.{◌≡◌, ◌++◌, length}
use Rattle.ev_piece.specs.Pieces.{joined, starts}
use Rattle.ev_piece.proofs.build.add_all.Given as goal

abbrev pub invariant-loop-piece : goal.invariant-loop-piece
invariant-loop-piece l = (l.at ≡ starts (length l.initial.parts.items) l.yielded) × (l.parts.items ≡ l.initial.parts.items ++ joined l.yielded)
