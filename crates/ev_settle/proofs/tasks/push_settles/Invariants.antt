-- What is left to push, and what was pushed, is all of it before what was there.
use Rattle.std.proofs.Common.{◌≡◌, ◌++◌, length}
use Rattle.ev_settle.specs.Tasks.{settles}
use Rattle.ev_settle.proofs.tasks.push_settles.Given as goal

abbrev pub invariant-loop-name : goal.invariant-loop-name
invariant-loop-name l = settles l.depth l.value l.left.items ++ l.tasks ≡ settles l.depth l.value l.fn.names ++ l.initial.tasks

abbrev pub decreases-loop-name : goal.decreases-loop-name
decreases-loop-name l = length l.left.items
