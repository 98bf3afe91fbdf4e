-- what the lines so far are about, and then the others
use Rattle.std.proofs.Common.{◌≡◌, ◌++◌, drop, map}
use Rattle.def_see.specs.Lines.{subjects_from}
use Rattle.ev_see_lives.specs.Lives.{spelled}
use Rattle.ev_see_lives.proofs.lives.subjects.Given as goal

abbrev pub invariant-loop-number : goal.invariant-loop-number
invariant-loop-number l = map spelled l.pairs.items ++ subjects_from l.number (drop l.number l.lines) ≡ subjects_from 0 l.lines
