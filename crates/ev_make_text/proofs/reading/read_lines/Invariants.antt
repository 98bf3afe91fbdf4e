-- what is told so far, with what the other lines say, is what all say
use Rattle.std.proofs.Common.{◌≡◌, ◌+◌, drop}
use Rattle.def_vats.specs.Reading.{nothing_told, told_from}
use Rattle.ev_make_text.proofs.reading.read_lines.Given as goal

abbrev pub invariant-loop-i : goal.invariant-loop-i
invariant-loop-i l = told_from (l.i + 1) l.told (drop l.i l.lines) ≡ told_from 1 nothing_told l.lines
