use Rattle.std.proofs.Common.{List, ap, ◌∙◌}
use Rattle.def_kernel.specs.declared.node.Node.{Node}
use Rattle.def_machine.specs.Free.{bound_nouns}
use Rattle.ev_steps.proofs.Bound.{ends_here, goes, shrinks}
use Rattle.ev_steps.proofs.binders.bound_nouns.Goals as goal

pub returns : goal.returns
returns c = ends_here _ _ _ _ c.in_default.ensures.0 c.loop-task.invariant ∙ ap (λ (tree : List Node). bound_nouns tree c.args.pattern) c.nodes-tree.ensures

pub loop-task-smaller : goal.loop-task-smaller
loop-task-smaller c = shrinks _ c.in-Some.task _ _ _ c.in-Some.ensures c.in_ok-look.ensures.tasks

pub loop-task-preserved : goal.loop-task-preserved
loop-task-preserved c = goes _ c.in-Some.task _ _ _ _ _ _ c.in-Some.ensures c.in_ok-look.ensures.found c.in_ok-look.ensures.tasks c.loop-task.invariant
