use Rattle.std.proofs.Common.{◌≡◌, ◌++◌, length}
use Rattle.ev_ways.specs.Telling.{left_row}
use Rattle.ev_ways.proofs.row.Row.tell_left.Given as goal

abbrev pub invariant-loop-way : goal.invariant-loop-way
invariant-loop-way l = (l.to ≡ length l.yielded) × (l.history ≡ l.initial.history ++ left_row l.from 0 l.yielded)
