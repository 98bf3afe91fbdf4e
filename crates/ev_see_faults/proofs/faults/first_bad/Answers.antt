use Rattle.std.proofs.Common.{sym, ◌∙◌, ap}
use Rattle.ev_see_faults.specs.Faults.{is_line}
use Rattle.ev_see_faults.proofs.BadLemmas.{passes, fails, none_bad}
use Rattle.ev_see_faults.proofs.faults.first_bad.Goals as goal

pub loop-number-preserved : goal.loop-number-preserved
loop-number-preserved c =
    passes c.index-lines-number.result c.args.lines.now c.loop-number.number _ c.loop-number-test.true c.index-lines-number.is
    (ap is_line (sym c.as_str.ensures) ∙ sym c.in_ok-is_one.ensures ∙ c.if-not-is_one.false) c.loop-number.invariant

pub returns-then-not-is_one : goal.returns-then-not-is_one
returns-then-not-is_one c =
    fails c.index-lines-number.result c.args.lines.now c.loop-number.number _ c.loop-number-test.true c.index-lines-number.is
    (ap is_line (sym c.as_str.ensures) ∙ sym c.in_ok-is_one.ensures ∙ c.if-not-is_one.true) c.loop-number.invariant

pub returns : goal.returns
returns c = none_bad c.args.lines.now c.loop-number.number _ c.loop-number-test.false c.loop-number.invariant
