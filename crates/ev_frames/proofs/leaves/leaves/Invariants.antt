use Rattle.std.proofs.Common.{◌≡◌, drop, length, ◌-◌}
use Rattle.ev_steps.specs.Steps.{evaluator, last_of}
use Rattle.ev_frames.proofs.leaves.leaves.Given as goal

abbrev pub invariant-loop-part : goal.invariant-loop-part
invariant-loop-part l = last_of (evaluator l.program l.depth) l.last (drop l.place l.parts) l.here l.room ≡ last_of (evaluator l.program l.depth) l.fn.value (drop l.begun l.parts) l.here l.fn.room

abbrev pub decreases-loop-part : goal.decreases-loop-part
decreases-loop-part l = length l.parts - l.place
