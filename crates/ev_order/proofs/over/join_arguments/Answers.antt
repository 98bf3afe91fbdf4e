use Rattle.std.proofs.Common.{arith}
use Rattle.ev_order.proofs.Joining.{joins_start, joins_next, joins_all, joins_no_vat, one_vat, two_vats}
use Rattle.ev_order.proofs.over.join_arguments.Goals as goal

pub returns-then-ne : goal.returns-then-ne
returns-then-ne c = joins_no_vat c.args.references.now c.args.sent c.args.carried c.args.places.now (two_vats c.args.sent.vat c.args.carried.vat c.ne.result c.ne.ensures c.if-ne.true)

pub loop-k-init : goal.loop-k-init
loop-k-init c = joins_start c.args.references.now c.args.sent c.args.carried c.args.places.now

pub loop-k-preserved : goal.loop-k-preserved
loop-k-preserved c =
    let less = c.loop-k-test.true in
    let count = c.min-count.ensures in
    joins_next c.args.references.now c.args.sent c.args.carried c.loop-k.k c.args.places.now c.loop-k.places c.join.new.places (one_vat c.args.sent.vat c.args.carried.vat c.ne.result c.ne.ensures c.if-ne.false) (omega (arith, less, count)) (omega (arith, less, count)) c.loop-k.invariant c.join.ensures

pub returns : goal.returns
returns c = joins_all c.args.references.now c.args.sent c.args.carried c.loop-k.k c.args.places.now c.loop-k.places (omega (arith, c.loop-k-test.false, c.loop-k.auto.k-end, c.min-count.ensures)) c.loop-k.invariant
