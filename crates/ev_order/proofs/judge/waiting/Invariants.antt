-- The first seeds are there.
use Rattle.ev_order.specs.Judge.{AreWaiting}
use Rattle.ev_order.proofs.judge.waiting.Given as goal

abbrev pub invariant-loop-number : goal.invariant-loop-number
invariant-loop-number l = AreWaiting l.places l.sent l.taken l.line l.seeds.items l.number
