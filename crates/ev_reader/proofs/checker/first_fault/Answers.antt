use Rattle.ev_reader.proofs.TaskLemmas.{starts, goes}
use Rattle.ev_reader.proofs.Weights.{shrinks}
use Rattle.ev_reader.proofs.checker.first_fault.Goals as goal

pub loop-task-init : goal.loop-task-init
loop-task-init c = starts c.args.nodes.now c.args.given.now _ _ _ c.in_ok-scan.ensures c.new-tasks.ensures c.in_ok-push.ensures

pub loop-task-smaller : goal.loop-task-smaller
loop-task-smaller c = shrinks _ c.in-Some.task _ _ _ _ c.in-Some.ensures c.in_ok-act.ensures.tasks

pub loop-task-preserved : goal.loop-task-preserved
loop-task-preserved c = goes _ c.in-Some.task _ _ _ _ _ _ c.in-Some.ensures c.in_ok-act.ensures.scan c.in_ok-act.ensures.tasks c.loop-task.invariant
