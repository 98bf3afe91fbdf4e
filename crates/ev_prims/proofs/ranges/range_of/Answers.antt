use Rattle.std.proofs.Common.{ap, sym, ◌∙◌}
use Rattle.std.proofs.lemmas.Int.{to_z-of_z}
use Rattle.def_machine.specs.Native.{Lists, counted}
use Rattle.ev_prims.proofs.RangeLemmas.{light_range}
use Rattle.ev_prims.proofs.ranges.range_of.Goals as goal

pub returns-in_ok-counted : goal.returns-in_ok-counted
returns-in_ok-counted c = λ h.
    ap Lists (c.in_ok-counted.ensures h ∙ ap (λ z. counted z c.args.count) (to_z-of_z _ c.args.first c.ranges.first))
    ∙ sym (light_range c.args.first c.args.count c.if-count-le-MOST.true)
