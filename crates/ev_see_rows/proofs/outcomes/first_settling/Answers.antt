use Rattle.std.proofs.Common.{ℕ, sym, ◌∙◌}
use Rattle.def_see.specs.Lines.{line_at}
use Rattle.def_see.specs.Rows.{settles}
use Rattle.ev_see_rows.proofs.FirstLemmas.{passes}
use Rattle.ev_see_rows.proofs.outcomes.first_settling.Goals as goal

pub loop-number-preserved : goal.loop-number-preserved
loop-number-preserved c = passes (λ (i : ℕ). settles (line_at c.args.lines.now i)) c.args.numbers.now c.loop-number.number-index _ c.loop-number-test.true (sym c.settles.ensures ∙ c.if-settles.false) c.loop-number.invariant
