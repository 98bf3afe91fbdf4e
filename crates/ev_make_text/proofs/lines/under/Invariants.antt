-- the lines so far are under the head, and so are those of the others that are
use Rattle.std.proofs.Common.{◌≡◌, ◌++◌, drop, take}
use Rattle.def_vats.specs.Reading.{under}
use Rattle.ev_make_text.proofs.lines.under.Given as goal

abbrev pub invariant-loop-i : goal.invariant-loop-i
invariant-loop-i l = take l.i l.lines ++ under (drop l.i l.lines) ≡ under l.lines
