use Rattle.std.proofs.Common.{◌∙◌, List, sym, ap, subst}
use Rattle.def_event.specs.declared.event.Event.{Event}
use Rattle.def_event.specs.Uses.{JudgesUses}
use Rattle.ev_uses.specs.Earlier.{earlier}
use Rattle.ev_uses.proofs.Least.{uses_judged}
use Rattle.ev_uses.proofs.judge.judge_uses.Goals as goal

pub returns : goal.returns
returns c =
    let all = uses_judged c.as_slice-events.result.now c.in_ok-unknown.unknown c.in_ok-changed.changed c.in_ok-unsent.unsent c.in_ok-unknown.ensures c.in_ok-changed.ensures c.in_ok-unsent.ensures in
    let is = c.earlier.ensures ∙ ap (earlier c.in_ok-unknown.unknown) c.earlier-message.ensures in
    subst (λ (es : List Event). JudgesUses es c.earlier.result) c.as_slice-events.ensures (subst (JudgesUses c.as_slice-events.result.now) (sym is) all)
