use Rattle.std.proofs.Common.{List, length, refl, subst}
use Rattle.std.proofs.lemmas.List.{take_all}
use Rattle.def_event.specs.declared.event.Event.{Event}
use Rattle.ev_order.specs.Walk.{IsWalked}
use Rattle.std.proofs.lemmas.Option.{slice_get_read}
use Rattle.ev_order.proofs.Walking.{line_walked, none_walked}
use Rattle.ev_order.proofs.walk.walk_all.Goals as goal

pub loop-line-init : goal.loop-line-init
loop-line-init c = none_walked c.new-walk.result c.new-walk.ensures.chain c.new-walk.ensures.started

pub loop-line-preserved : goal.loop-line-preserved
loop-line-preserved c =
    let h = c.loop-line-test.true in
    line_walked c.args.events.now c.loop-line.line _ c.loop-line.walk c.add_line.new.self (slice_get_read c.args.events.now (length c.args.events.now) c.loop-line.line _ refl h c.index-events-line.is) c.loop-line.invariant c.in_ok-add_line.ensures

pub returns : goal.returns
returns c = subst (λ (ls : List Event). IsWalked ls c.loop-line.walk) (take_all c.loop-line.line c.args.events.now c.loop-line-test.false) c.loop-line.invariant
