-- What is marked so far is held, and what the facts so far tell is marked.
use Rattle.std.proofs.Common.{List}
use Rattle.def_event.specs.Uses.{Line}
use Rattle.ev_known.specs.Marks.{AreMarked, MarksStand}
use Rattle.ev_known.specs.Telling.{StandsFor}
use Rattle.ev_known.proofs.marks.Marks.tell_from.Given as goal

abbrev pub invariant-loop-index : goal.invariant-loop-index
invariant-loop-index l =
    ((past : List Line) → StandsFor l.facts past → MarksStand l.fn.self l.following.plan past → MarksStand l.self l.following.plan past) × AreMarked l.following.plan l.facts l.first l.index l.fn.self l.self
