use Rattle.std.proofs.Common.{◌≡◌, ◌++◌, length}
use Rattle.ev_step_lines.specs.Lines.{lines_of}
use Rattle.ev_step_lines.proofs.lines.push_all.Given as goal

-- the lines so far, and then those of what is left, are the lines of all
abbrev pub invariant-loop-entry : goal.invariant-loop-entry
invariant-loop-entry l = l.history ++ lines_of l.teller l.read.left ≡ l.fn.history ++ lines_of l.teller l.fn.read.left

-- each turn reads one
abbrev pub decreases-loop-entry : goal.decreases-loop-entry
decreases-loop-entry l = length l.read.left
