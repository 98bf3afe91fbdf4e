use Rattle.std.proofs.Common.{◌≤◌, length, refl, arith}
use Rattle.std.proofs.lemmas.Option.{slice_get_read}
use Rattle.ev_known.proofs.Judging.{judging_done, judging_fails, judging_init, judging_step}
use Rattle.ev_uses.specs.Onward.{OnwardStand}
use Rattle.ev_uses.proofs.Walking.{IsTakeSent}
use Rattle.ev_uses.proofs.changed.first_taken_otherwise.Goals as goal

pub loop-index-init : goal.loop-index-init
loop-index-init c stands o = judging_init (IsTakeSent c.args.events.now) (OnwardStand c.args.links.now) c.args.events.now o

pub returns-then-not-branch : goal.returns-then-not-branch
returns-then-not-branch c stands o =
    let i = c.loop-index.index in
    let get = slice_get_read c.args.events.now (length c.args.events.now) i c.index-events-index.result refl c.loop-index-test.true c.index-events-index.is in
    judging_fails (IsTakeSent c.args.events.now) (OnwardStand c.loop-index.links) c.loop-index.at c.place_after-at.result c.args.events.now i c.index-events-index.result
    c.in_ok-takes_sent.field-0 (c.loop-index.invariant stands o) get c.place_after-at.ensures (λ past h. c.in_ok-takes_sent.ensures past stands h) c.if-not-branch.true

pub loop-index-preserved : goal.loop-index-preserved
loop-index-preserved c stands o =
    let i = c.loop-index.index in
    let get = slice_get_read c.args.events.now (length c.args.events.now) i c.index-events-index.result refl c.loop-index-test.true c.index-events-index.is in
    judging_step (IsTakeSent c.args.events.now) (OnwardStand c.loop-index.links) (OnwardStand c.tell_onward.new.links) c.loop-index.at c.place_after-at.result c.args.events.now i
    c.index-events-index.result c.in_ok-takes_sent.field-0 (c.loop-index.invariant stands o) get c.place_after-at.ensures (λ past h. c.in_ok-takes_sent.ensures past stands h)
    c.if-not-branch.false c.in_ok-tell_onward.ensures

pub returns : goal.returns
returns c stands o =
    let all : length c.args.events.now ≤ c.loop-index.index = omega (arith, c.loop-index-test.false) in
    judging_done (IsTakeSent c.args.events.now) (OnwardStand c.loop-index.links) c.loop-index.at c.args.events.now c.loop-index.index (c.loop-index.invariant stands o) all
