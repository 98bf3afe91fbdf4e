-- the phrases so far
use Rattle.std.proofs.Common.{◌≡◌, take}
use Rattle.def_see.specs.Rows.{phrases, fate_phrase}
use Rattle.ev_see_rows.proofs.rows.fate.Given as goal

abbrev pub invariant-loop-number : goal.invariant-loop-number
invariant-loop-number l = l.found ≡ phrases fate_phrase l.lines (take l.number-index l.numbers)
