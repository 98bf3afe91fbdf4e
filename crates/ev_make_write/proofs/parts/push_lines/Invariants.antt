-- what was appended so far, and then the others, are all
use Rattle.std.proofs.Common.{◌≡◌, ◌++◌, drop}
use Rattle.ev_make_write.specs.Writing.{lines_text}
use Rattle.ev_make_write.proofs.parts.push_lines.Given as goal

abbrev pub invariant-loop-line : goal.invariant-loop-line
invariant-loop-line l = l.out ++ lines_text (drop l.line-index l.lines) ≡ l.fn.out ++ lines_text l.lines
