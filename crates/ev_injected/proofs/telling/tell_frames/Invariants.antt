use Rattle.std.proofs.Common.{◌≡◌, ◌++◌, length}
use Rattle.ev_injected.specs.Telling.{left_frames}
use Rattle.ev_injected.proofs.telling.tell_frames.Given as goal

abbrev pub invariant-loop-frame : goal.invariant-loop-frame
invariant-loop-frame l = l.history ++ left_frames l.from l.to l.frames.items ≡ l.initial.history ++ left_frames l.from l.to l.initial.frames.items

abbrev pub decreases-loop-frame : goal.decreases-loop-frame
decreases-loop-frame l = length l.frames.items
