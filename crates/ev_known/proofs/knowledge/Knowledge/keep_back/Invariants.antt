-- It stands for the same lines.
use Rattle.std.proofs.Common.{List}
use Rattle.def_event.specs.Uses.{Line}
use Rattle.ev_known.specs.Knowing.{KnownStand}
use Rattle.ev_known.proofs.knowledge.Knowledge.keep_back.Given as goal

abbrev pub invariant-loop-back : goal.invariant-loop-back
invariant-loop-back l = (past : List Line) → KnownStand l.fn.self past → KnownStand l.self past
