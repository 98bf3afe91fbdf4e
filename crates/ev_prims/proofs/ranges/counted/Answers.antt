use Rattle.std.proofs.Common.{arith, ap, ◌∙◌}
use Rattle.std.proofs.lemmas.Int.{ints, to_z-of_z}
use Rattle.def_machine.specs.Native.{counted}
use Rattle.ev_prims.specs.Reading.{values_in}
use Rattle.ev_prims.proofs.RangeLemmas.{counted_none, counted_more}
use Rattle.ev_prims.proofs.ranges.counted.Goals as goal

pub loop-index-init : goal.loop-index-init
loop-index-init c = λ h. ap (values_in h) c.new-all.ensures ∙ counted_none _ h

pub loop-index-preserved : goal.loop-index-preserved
loop-index-preserved c = counted_more _ _ _ _ _ c.in_ok-push.ensures.ok (omega (arith, ints, c.number_at-number.ensures)) c.loop-index.invariant

pub returns : goal.returns
returns c = λ h.
    c.loop-index.invariant h ∙ ap (λ z. counted z c.loop-index.index) (to_z-of_z _ c.args.first c.ranges.first)
    ∙ ap (counted c.args.first) (omega arith)
