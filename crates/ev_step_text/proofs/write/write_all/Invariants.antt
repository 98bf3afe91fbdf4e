use Rattle.std.proofs.Common.{◌≡◌, ◌++◌, length, string_bytes}
use Rattle.def_event.specs.Lines.{render}
use Rattle.ev_step_lines.specs.Lines.{lines_of}
use Rattle.ev_step_text.specs.Spelled.{IsKnown}
use Rattle.ev_step_text.proofs.write.write_all.Given as goal

-- the text so far, and then the lines of what is left, are the text of all
abbrev pub invariant-loop-entry : goal.invariant-loop-entry
invariant-loop-entry l = (string_bytes l.out ++ render l.names (lines_of l.teller l.read.left) ≡ string_bytes l.fn.out ++ render l.names (lines_of l.teller l.fn.read.left))
    × IsKnown l.read.verbs l.known

-- each turn reads one
abbrev pub decreases-loop-entry : goal.decreases-loop-entry
decreases-loop-entry l = length l.read.left
