-- doing what is left finds what the whole finds
use Rattle.std.proofs.Common.{◌≡◌}
use Rattle.ev_kernel_printer.specs.FreeNames.{free_names}
use Rattle.ev_kernel_printer.proofs.WalkLemmas.{all_done}
use Rattle.ev_kernel_printer.proofs.Weights.{weight}
use Rattle.ev_kernel_printer.proofs.walker.free_names.Given as goal

abbrev pub invariant-loop-task : goal.invariant-loop-task
invariant-loop-task l = (all_done l.nodes l.tasks l.names).free ≡ free_names l.nodes l.fn.node

abbrev pub decreases-loop-task : goal.decreases-loop-task
decreases-loop-task l = weight l.nodes l.tasks
