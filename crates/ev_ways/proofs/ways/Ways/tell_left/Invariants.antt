use Rattle.std.proofs.Common.{◌≡◌, ◌++◌, length}
use Rattle.ev_ways.specs.Telling.{left_rows}
use Rattle.ev_ways.proofs.ways.Ways.tell_left.Given as goal

abbrev pub invariant-loop-row : goal.invariant-loop-row
invariant-loop-row l = (l.from ≡ length l.yielded) × (l.history ≡ l.initial.history ++ left_rows 0 l.yielded)
