-- What is left to push, and what was pushed, is all of it before what was there.
use Rattle.std.proofs.Common.{◌≡◌, ◌++◌, length}
use Rattle.ev_settle.specs.Tasks.{sends}
use Rattle.ev_settle.proofs.tasks.push_sends.Given as goal

abbrev pub invariant-loop-message : goal.invariant-loop-message
invariant-loop-message l = sends l.depth l.left.items ++ l.tasks ≡ sends l.depth l.fn.messages ++ l.initial.tasks

abbrev pub decreases-loop-message : goal.decreases-loop-message
decreases-loop-message l = length l.left.items
