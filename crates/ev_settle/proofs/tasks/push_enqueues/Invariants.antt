-- What is left to push, and what was pushed, is all of it before what was there.
use Rattle.std.proofs.Common.{◌≡◌, ◌++◌, length}
use Rattle.ev_settle.specs.Tasks.{enqueues}
use Rattle.ev_settle.proofs.tasks.push_enqueues.Given as goal

abbrev pub invariant-loop-message : goal.invariant-loop-message
invariant-loop-message l = enqueues l.left.items ++ l.tasks ≡ enqueues l.fn.messages ++ l.initial.tasks

abbrev pub decreases-loop-message : goal.decreases-loop-message
decreases-loop-message l = length l.left.items
