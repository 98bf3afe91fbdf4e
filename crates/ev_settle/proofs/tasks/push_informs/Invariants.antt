-- What is left to push, and what was pushed, is all of it before what was there.
use Rattle.std.proofs.Common.{◌≡◌, ◌++◌, length}
use Rattle.ev_settle.specs.Tasks.{informs}
use Rattle.ev_settle.proofs.tasks.push_informs.Given as goal

abbrev pub invariant-loop-vat : goal.invariant-loop-vat
invariant-loop-vat l = informs l.name l.left.items ++ l.tasks ≡ informs l.name l.fn.vats ++ l.initial.tasks

abbrev pub decreases-loop-vat : goal.decreases-loop-vat
decreases-loop-vat l = length l.left.items
