use Rattle.std.proofs.Common.{◌≡◌, drop, length, ◌-◌}
use Rattle.ev_room.specs.Acts.{Extends}
use Rattle.ev_steps.specs.Steps.{unmatched}
use Rattle.ev_steps.proofs.matches.unmatched.Given as goal

-- the names so far, and then the rest, are all
abbrev pub invariant-loop-name : goal.invariant-loop-name
invariant-loop-name l = record {
  rest : unmatched (drop l.place l.names) l.here l.room ≡ unmatched l.names l.fn.here l.fn.room;
  front : Extends l.fn.here l.here;
}

abbrev pub decreases-loop-name : goal.decreases-loop-name
decreases-loop-name l = length l.names - l.place
