-- The lines so far hold, and the links stand for them.
use Rattle.std.proofs.Common.{[]}
use Rattle.ev_known.proofs.Judging.{Judging}
use Rattle.ev_uses.specs.Finding.{SourcesStand}
use Rattle.ev_uses.specs.Onward.{OnwardStand}
use Rattle.ev_uses.proofs.Walking.{IsTakeSent}
use Rattle.ev_uses.proofs.changed.first_taken_otherwise.Given as goal

abbrev pub invariant-loop-index : goal.invariant-loop-index
invariant-loop-index l = SourcesStand l.events l.sources l.events → OnwardStand l.fn.links [] → Judging (IsTakeSent l.events) (OnwardStand l.links) l.at l.events l.index
