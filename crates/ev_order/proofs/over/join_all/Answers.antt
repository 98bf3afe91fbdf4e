use Rattle.std.proofs.Common.{arith}
use Rattle.ev_order.proofs.JoiningAll.{joins_first, joins_more, joins_every}
use Rattle.ev_order.proofs.over.join_all.Goals as goal

pub loop-number-init : goal.loop-number-init
loop-number-init c = joins_first c.args.references.now c.args.sent.now c.args.carried.now c.args.places.now

pub loop-number-preserved : goal.loop-number-preserved
loop-number-preserved c = joins_more c.args.references.now c.args.sent.now c.args.carried.now c.loop-number.number c.args.places.now c.loop-number.places c.join_message.new.places c.loop-number.invariant c.join_message.ensures

pub returns : goal.returns
returns c = joins_every c.args.references.now c.args.sent.now c.args.carried.now c.loop-number.number c.args.places.now c.loop-number.places (omega (arith, c.loop-number-test.false, c.len-number-end.ensures)) c.loop-number.invariant
