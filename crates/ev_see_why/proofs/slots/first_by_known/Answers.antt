use Rattle.std.proofs.Common.{◌≤◌, length, refl, arith}
use Rattle.std.proofs.lemmas.Option.{slice_get_read}
use Rattle.ev_known.proofs.Judging.{judging_done, judging_fails, judging_init, judging_step}
use Rattle.ev_known.specs.Knowing.{KnownStand}
use Rattle.ev_see_verdicts.specs.Judged.{SlotKnown}
use Rattle.ev_see_why.proofs.slots.first_by_known.Goals as goal

pub loop-index-init : goal.loop-index-init
loop-index-init c h = judging_init SlotKnown (KnownStand c.args.knowledge.now) c.args.events.now h

pub returns-then-not-branch : goal.returns-then-not-branch
returns-then-not-branch c h =
    let i = c.loop-index.index in
    let get = slice_get_read c.args.events.now (length c.args.events.now) i c.index-events-index.result refl c.loop-index-test.true c.index-events-index.is in
    judging_fails SlotKnown (KnownStand c.loop-index.knowledge) c.loop-index.at c.place_after-at.result c.args.events.now i c.index-events-index.result c.in_ok-is_slot_known.field-0 (c.loop-index.invariant h) get
    c.place_after-at.ensures (λ past stand. (c.in_ok-is_slot_known.ensures past stand).0) c.if-not-branch.true

pub loop-index-preserved : goal.loop-index-preserved
loop-index-preserved c h =
    let i = c.loop-index.index in
    let get = slice_get_read c.args.events.now (length c.args.events.now) i c.index-events-index.result refl c.loop-index-test.true c.index-events-index.is in
    judging_step SlotKnown (KnownStand c.loop-index.knowledge) (KnownStand c.tell_line.new.self) c.loop-index.at c.place_after-at.result c.args.events.now i c.index-events-index.result
    c.in_ok-is_slot_known.field-0 (c.loop-index.invariant h) get c.place_after-at.ensures (λ past stand. (c.in_ok-is_slot_known.ensures past stand).0) c.if-not-branch.false
    (λ past stand. c.in_ok-tell_line.ensures past (c.in_ok-is_slot_known.ensures past stand).1)

pub returns : goal.returns
returns c h =
    let all : length c.args.events.now ≤ c.loop-index.index = omega (arith, c.loop-index-test.false) in
    judging_done SlotKnown (KnownStand c.loop-index.knowledge) c.loop-index.at c.args.events.now c.loop-index.index (c.loop-index.invariant h) all
