use Rattle.std.proofs.Common.{◌≤◌, arith, length, refl}
use Rattle.std.proofs.lemmas.Option.{slice_get_read}
use Rattle.ev_links.proofs.Planning.{planning_done, planning_init, planning_step}
use Rattle.ev_links.proofs.chains.plan_of.Goals as goal

pub loop-event-init : goal.loop-event-init
loop-event-init c = planning_init c.args.events.now c.new-plan.result c.new-plan.ensures

pub loop-event-preserved : goal.loop-event-preserved
loop-event-preserved c =
    let i = c.loop-event.event-index in
    let get = slice_get_read c.args.events.now (length c.args.events.now) i c.event-item.result refl c.loop-event-test.true c.event-item.is in
    planning_step c.loop-event.at c.place_after-at.result c.args.events.now i c.event-item.result c.loop-event.plan c.tell_line.new.self get c.place_after-at.ensures c.loop-event.invariant c.in_ok-tell_line.ensures

pub returns : goal.returns
returns c =
    let all : length c.args.events.now ≤ c.loop-event.event-index = omega (arith, c.loop-event-test.false) in
    planning_done c.loop-event.at c.args.events.now c.loop-event.event-index c.loop-event.plan all c.loop-event.invariant
