-- The lines so far hold, and what is kept stands for them.
use Rattle.std.proofs.Common.{[]}
use Rattle.ev_known.proofs.Judging.{Judging}
use Rattle.ev_uses.specs.Kept.{KeptStand}
use Rattle.ev_uses.specs.Using.{IsOfKnown}
use Rattle.ev_uses.proofs.unknown.first_failing.Given as goal

abbrev pub invariant-loop-index : goal.invariant-loop-index
invariant-loop-index l = KeptStand l.fn.knowledge l.fn.calls [] → Judging IsOfKnown (KeptStand l.knowledge l.calls) l.at l.events l.index
