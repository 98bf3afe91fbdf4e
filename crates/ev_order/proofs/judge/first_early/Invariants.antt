-- No line so far takes too early.
use Rattle.ev_order.specs.Judge.{NoneEarly}
use Rattle.ev_order.proofs.judge.first_early.Given as goal

abbrev pub invariant-loop-line : goal.invariant-loop-line
invariant-loop-line l = NoneEarly l.labels l.sent l.taken l.events l.line
