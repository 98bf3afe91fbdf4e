-- The first seeds are there.
use Rattle.std.proofs.Common.{length}
use Rattle.ev_order.specs.Judge.{IsRanked}
use Rattle.ev_order.proofs.judge.ranked.Given as goal

abbrev pub invariant-loop-number : goal.invariant-loop-number
invariant-loop-number l = IsRanked l.places l.sent l.taken l.seeds.items l.number 0

abbrev pub invariant-loop-back : goal.invariant-loop-back
invariant-loop-back l = IsRanked l.places l.sent l.taken l.seeds.items (length l.sent) l.back
