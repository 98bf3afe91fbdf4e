use Rattle.ev_kernel_printer.proofs.WalkLemmas.{starts, goes}
use Rattle.ev_kernel_printer.proofs.Weights.{shrinks}
use Rattle.ev_kernel_printer.proofs.walker.free_names.Goals as goal

pub loop-task-init : goal.loop-task-init
loop-task-init c = starts c.nodes-nodes.result.now _ _ _ _ c.new-names.ensures c.new-tasks.ensures c.in_ok-push_counted.ensures

pub loop-task-smaller : goal.loop-task-smaller
loop-task-smaller c = shrinks _ c.in-Some.task _ _ _ _ c.in-Some.ensures c.in_ok-act.ensures.tasks

pub loop-task-preserved : goal.loop-task-preserved
loop-task-preserved c = goes _ c.in-Some.task _ _ _ _ _ _ c.in-Some.ensures c.in_ok-act.ensures.names c.in_ok-act.ensures.tasks c.loop-task.invariant
