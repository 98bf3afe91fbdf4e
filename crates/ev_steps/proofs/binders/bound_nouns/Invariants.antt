-- what is found and what is left to be found is all
use Rattle.std.proofs.Common.{◌≡◌, ◌++◌}
use Rattle.def_machine.specs.Free.{bound_nouns}
use Rattle.ev_steps.specs.Binders.{left}
use Rattle.ev_steps.proofs.Bound.{weight}
use Rattle.ev_steps.proofs.binders.bound_nouns.Given as goal

abbrev pub invariant-loop-task : goal.invariant-loop-task
invariant-loop-task l = l.found ++ left l.tree l.tasks ≡ bound_nouns l.tree l.fn.pattern

abbrev pub decreases-loop-task : goal.decreases-loop-task
decreases-loop-task l = weight l.tree l.tasks
