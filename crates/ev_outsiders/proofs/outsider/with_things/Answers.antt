use Rattle.ev_outsiders.specs.Counting.{outsider_of}
use Rattle.ev_outsiders.proofs.Counts.{counted_all, counted_next}
use Rattle.ev_outsiders.proofs.outsider.with_things.Goals as goal

pub loop-kind-preserved : goal.loop-kind-preserved
loop-kind-preserved c = counted_next c.args.kinds.now c.loop-kind.kind-index (outsider_of c.args.outsider) (outsider_of c.loop-kind.found) (outsider_of c.in_ok-found.found) c.loop-kind-test.true c.in_ok-found.ensures c.loop-kind.invariant

pub returns : goal.returns
returns c = counted_all c.args.kinds.now c.loop-kind.kind-index (outsider_of c.args.outsider) (outsider_of c.loop-kind.found) c.loop-kind-test.false c.loop-kind.invariant
