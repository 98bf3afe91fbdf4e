use Rattle.std.proofs.Common.{arith, ◌<◌}
use Rattle.ev_op.proofs.NumberLemmas.{bound_large}
use Rattle.ev_op.proofs.numbers.+digits_of.Goals as goal
use Rattle.ev_op.proofs.numbers.+digits_of.Goals.{else-places-eq0-via-then-places-eq0+else-only-ge2, else-places-eq0-via-else-places-eq0}

pub returns-then-first-lt128-clause-below : goal.returns-then-first-lt128-clause-below
returns-then-first-lt128-clause-below t c =
    elim c.else-places-eq0.branch [
      | else-places-eq0-via-then-places-eq0+else-only-ge2 w ↦ rw w.if-places-eq0.true (omega arith)
      | else-places-eq0-via-else-places-eq0 w ↦
          let some : 0 < c.args.places = omega arith in
          omega (arith, bound_large c.args.places some, c.last_digit_of-only.ensures.small)
    ]
