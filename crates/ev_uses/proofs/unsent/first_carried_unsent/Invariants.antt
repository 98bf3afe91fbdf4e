-- The lines so far hold, and the tables stand for them.
use Rattle.std.proofs.Common.{[]}
use Rattle.ev_known.proofs.Judging.{Judging}
use Rattle.ev_uses.specs.Finding.{FindsBefore}
use Rattle.ev_uses.specs.Onward.{OnwardStand}
use Rattle.ev_uses.proofs.Walking.{HeldStand, IsCarrySent}
use Rattle.ev_uses.proofs.unsent.first_carried_unsent.Given as goal

abbrev pub invariant-loop-index : goal.invariant-loop-index
invariant-loop-index l = FindsBefore l.events l.fn.before [] → OnwardStand l.fn.links [] → Judging IsCarrySent (HeldStand l.events l.before l.links) l.at l.events l.index
