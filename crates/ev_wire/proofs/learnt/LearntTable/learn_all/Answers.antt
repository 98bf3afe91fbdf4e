use Rattle.std.proofs.Common.{◌<◌, length, arith}
use Rattle.ev_wire.specs.Learnt.{put_all}
use Rattle.ev_wire.proofs.Taken.{gifts_on}
use Rattle.ev_wire.proofs.learnt.LearntTable.learn_all.Goals as goal

pub loop-index-preserved : goal.loop-index-preserved
loop-index-preserved c =
    let lt : c.loop-index.index < length c.args.more.now = omega (arith, c.loop-index-test.true, c.len-index-end.ensures) in
    gifts_on c.args.more.now c.loop-index.index c.loop-index.self c.learn_at.new.self (put_all c.args.more.now c.args.self.now) lt c.in_ok-learn_at.ensures c.loop-index.invariant
