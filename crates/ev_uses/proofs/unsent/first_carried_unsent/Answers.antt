use Rattle.std.proofs.Common.{◌≤◌, length, refl, arith}
use Rattle.std.proofs.lemmas.Option.{slice_get_read}
use Rattle.ev_known.proofs.Judging.{judging_done, judging_fails, judging_init, judging_step}
use Rattle.ev_uses.proofs.Walking.{HeldStand, IsCarrySent, held_step}
use Rattle.ev_uses.proofs.unsent.first_carried_unsent.Goals as goal

pub loop-index-init : goal.loop-index-init
loop-index-init c finds leads = judging_init IsCarrySent (HeldStand c.args.events.now c.args.before.now c.args.links.now) c.args.events.now (finds, leads)

pub returns-then-not-branch : goal.returns-then-not-branch
returns-then-not-branch c finds leads =
    let i = c.loop-index.index in
    let get = slice_get_read c.args.events.now (length c.args.events.now) i c.index-events-index.result refl c.loop-index-test.true c.index-events-index.is in
    judging_fails IsCarrySent (HeldStand c.args.events.now c.loop-index.before c.loop-index.links) c.loop-index.at c.place_after-at.result c.args.events.now i c.index-events-index.result
    c.in_ok-carries_sent.field-0 (c.loop-index.invariant finds leads) get c.place_after-at.ensures (λ past h. c.in_ok-carries_sent.ensures past h.0 h.1) c.if-not-branch.true

pub loop-index-preserved : goal.loop-index-preserved
loop-index-preserved c finds leads =
    let i = c.loop-index.index in
    let get = slice_get_read c.args.events.now (length c.args.events.now) i c.index-events-index.result refl c.loop-index-test.true c.index-events-index.is in
    judging_step IsCarrySent (HeldStand c.args.events.now c.loop-index.before c.loop-index.links) (HeldStand c.args.events.now c.put.new.self c.tell_onward.new.links) c.loop-index.at c.place_after-at.result
    c.args.events.now i c.index-events-index.result c.in_ok-carries_sent.field-0 (c.loop-index.invariant finds leads) get c.place_after-at.ensures (λ past h. c.in_ok-carries_sent.ensures past h.0 h.1)
    c.if-not-branch.false
    (λ past h. held_step c.args.events.now i c.place_after-at.result c.index-events-index.result c.held_message.result past c.loop-index.before c.put.new.self c.loop-index.links c.tell_onward.new.links get
    c.held_message.ensures c.in_ok-put.ensures (λ o. c.in_ok-tell_onward.ensures past o) h)

pub returns : goal.returns
returns c finds leads =
    let all : length c.args.events.now ≤ c.loop-index.index = omega (arith, c.loop-index-test.false) in
    judging_done IsCarrySent (HeldStand c.args.events.now c.loop-index.before c.loop-index.links) c.loop-index.at c.args.events.now c.loop-index.index (c.loop-index.invariant finds leads) all
