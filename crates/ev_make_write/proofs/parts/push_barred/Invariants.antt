-- what was appended so far, and then the others, are all
use Rattle.std.proofs.Common.{◌≡◌, ◌++◌, drop, map}
use Rattle.ev_make_write.specs.Writing.{barred, lines_text}
use Rattle.ev_make_write.proofs.parts.push_barred.Given as goal

abbrev pub invariant-loop-line : goal.invariant-loop-line
invariant-loop-line l = l.out ++ lines_text (map barred (drop l.line-index l.lines)) ≡ l.fn.out ++ lines_text (map barred l.lines)
