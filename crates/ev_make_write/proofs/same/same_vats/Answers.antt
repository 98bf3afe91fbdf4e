use Rattle.std.proofs.Common.{rules, arith}
use Rattle.ev_make_write.proofs.Joins.{grown}
use Rattle.ev_make_write.proofs.same.same_vats.Goals as goal

pub loop-i-preserved : goal.loop-i-preserved
loop-i-preserved c = grown c.loop-i.i c.args.a.now c.args.b.now c.index-a-i.result c.index-b-i.result (omega arith) (omega arith) c.index-a-i.is c.index-b-i.is (search rules) c.loop-i.invariant
