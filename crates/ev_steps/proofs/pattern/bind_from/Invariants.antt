use Rattle.std.proofs.Common.{◌≡◌, drop, length, ◌-◌}
use Rattle.ev_room.specs.Acts.{Extends}
use Rattle.ev_steps.specs.Steps.{evaluator, bind_all}
use Rattle.ev_steps.proofs.pattern.bind_from.Given as goal

-- what is bound so far, and then the rest, is the whole
abbrev pub invariant-loop-pattern : goal.invariant-loop-pattern
invariant-loop-pattern l = record {
  bound : bind_all (evaluator l.program l.depth) (drop l.place l.patterns) (drop l.place l.values) l.ejector l.here l.room
      ≡ bind_all (evaluator l.program l.depth) (drop l.fn.begun l.patterns) (drop l.fn.begun l.values) l.ejector l.fn.here l.fn.room;
  front : Extends l.fn.here l.here;
}

abbrev pub decreases-loop-pattern : goal.decreases-loop-pattern
decreases-loop-pattern l = length l.patterns - l.place
