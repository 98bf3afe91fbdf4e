-- the phrases so far
use Rattle.std.proofs.Common.{◌≡◌, take}
use Rattle.def_see.specs.Rows.{phrases, carry_phrase}
use Rattle.ev_see_rows.proofs.rows.carried.Given as goal

abbrev pub invariant-loop-number : goal.invariant-loop-number
invariant-loop-number l = l.found ≡ phrases carry_phrase l.lines (take l.number-index l.numbers)
