use Rattle.std.proofs.Common.{◌≡◌, ◌≤◌, ℕ, length, refl, sym, ◌∙◌, arith}
use Rattle.std.proofs.lemmas.Option.{slice_get_read}
use Rattle.ev_see_refusals.proofs.ValueLemmas.{next_item}
use Rattle.ev_see_refusals.proofs.Walking.{walks_done, walks_end, walks_first, walks_on}
use Rattle.ev_see_refusals.proofs.refusals.first_by_marks.Goals as goal

pub loop-index-init : goal.loop-index-init
loop-index-init c none = walks_first c.args.question c.args.events.now c.args.marks.now none

pub returns-in-Some : goal.returns-in-Some
returns-in-Some c none =
    let es = c.args.events.now in
    let i = c.loop-index.index in
    let e = c.index-events-index.result in
    walks_end c.args.question es c.loop-index.marks c.loop-index.at c.place_after-at.result i e c.fault_at-failed.result (c.loop-index.invariant none) c.loop-index-test.true
    (next_item e es i c.loop-index-test.true c.index-events-index.is) c.place_after-at.ensures c.fault_at-failed.ensures c.in-Some.fault c.in-Some.is

pub loop-index-preserved : goal.loop-index-preserved
loop-index-preserved c none =
    let es = c.args.events.now in
    let i = c.loop-index.index in
    let e = c.index-events-index.result in
    walks_on c.args.question es c.loop-index.marks c.loop-index.at c.place_after-at.result i e c.fault_at-failed.result (c.loop-index.invariant none) c.loop-index-test.true
    (next_item e es i c.loop-index-test.true c.index-events-index.is) c.place_after-at.ensures c.fault_at-failed.ensures c.tell_line.new.self c.in_default.is
    (slice_get_read es (length es) i e refl c.loop-index-test.true c.index-events-index.is) c.in_ok-tell_line.ensures

pub returns : goal.returns
returns c none =
    let all : length c.args.events.now ≤ c.loop-index.index = omega (arith, c.loop-index-test.false) in
    walks_done c.args.question c.args.events.now c.loop-index.marks c.loop-index.at c.loop-index.index (c.loop-index.invariant none) all
