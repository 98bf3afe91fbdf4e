-- the first of those that are left is the first of all
use Rattle.std.proofs.Common.{◌≡◌, drop}
use Rattle.def_see.specs.Lines.{line_at}
use Rattle.def_see.specs.Rows.{first_of, settles}
use Rattle.ev_see_rows.proofs.outcomes.first_settling.Given as goal

abbrev pub invariant-loop-number : goal.invariant-loop-number
invariant-loop-number l = first_of (λ i. settles (line_at l.lines i)) (drop l.number-index l.numbers) ≡ first_of (λ i. settles (line_at l.lines i)) l.numbers
