-- the first of the others is the first of all
use Rattle.std.proofs.Common.{◌≡◌, ◌+◌, drop}
use Rattle.ev_see_faults.specs.Faults.{bad_from}
use Rattle.ev_see_faults.proofs.faults.first_bad.Given as goal

abbrev pub invariant-loop-number : goal.invariant-loop-number
invariant-loop-number l = bad_from (l.number + 1) (drop l.number l.lines) ≡ bad_from 1 l.lines
