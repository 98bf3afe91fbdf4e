use Rattle.std.proofs.Common.{length, refl}
use Rattle.std.proofs.lemmas.Option.{slice_get_read}
use Rattle.ev_order.proofs.Early.{none_more, none_at_all}
use Rattle.ev_order.proofs.judge.first_early.Goals as goal

pub loop-line-preserved : goal.loop-line-preserved
loop-line-preserved c =
    none_more c.args.labels.now c.args.sent.now c.args.taken.now c.args.events.now c.loop-line.line c.index-events-line.result
    (slice_get_read c.args.events.now (length c.args.events.now) c.loop-line.line c.index-events-line.result refl c.loop-line-test.true c.index-events-line.is) c.loop-line.invariant c.in_default.ensures

pub returns : goal.returns
returns c = none_at_all c.args.labels.now c.args.sent.now c.args.taken.now c.args.events.now c.loop-line.line c.loop-line-test.false c.loop-line.invariant
