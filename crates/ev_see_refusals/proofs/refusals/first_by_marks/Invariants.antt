-- the walk so far
use Rattle.std.proofs.Common.{◌≡◌, []}
use Rattle.ev_see_refusals.proofs.Walking.{Walks}
use Rattle.ev_see_refusals.proofs.refusals.first_by_marks.Given as goal

abbrev pub invariant-loop-index : goal.invariant-loop-index
invariant-loop-index l = l.fn.marks ≡ [] → Walks l.question l.events l.marks l.at l.index
