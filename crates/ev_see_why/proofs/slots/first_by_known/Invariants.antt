-- The lines so far hold, and what is known stands for them.
use Rattle.std.proofs.Common.{[]}
use Rattle.ev_known.proofs.Judging.{Judging}
use Rattle.ev_known.specs.Knowing.{KnownStand}
use Rattle.ev_see_verdicts.specs.Judged.{SlotKnown}
use Rattle.ev_see_why.proofs.slots.first_by_known.Given as goal

abbrev pub invariant-loop-index : goal.invariant-loop-index
invariant-loop-index l = KnownStand l.fn.knowledge [] → Judging SlotKnown (KnownStand l.knowledge) l.at l.events l.index
