use Rattle.std.proofs.Common.{◌≡◌, drop, length, ◌-◌}
use Rattle.ev_steps.specs.Steps.{evaluator, gathered}
use Rattle.ev_frames.proofs.leaves.leaf_args.Given as goal

abbrev pub invariant-loop-part : goal.invariant-loop-part
invariant-loop-part l = gathered (evaluator l.program l.depth) l.values (drop (length l.values) l.args) l.here l.room ≡ gathered (evaluator l.program l.depth) l.fn.so_far (drop (length l.fn.so_far) l.args) l.here l.fn.room

abbrev pub decreases-loop-part : goal.decreases-loop-part
decreases-loop-part l = length l.args - length l.values
