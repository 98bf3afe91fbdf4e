-- the nodes from this one on stand before what was there
use Rattle.std.proofs.Common.{◌≡◌, ◌≤◌, ◌++◌, length, drop}
use Rattle.ev_steps.specs.Binders.{at_level}
use Rattle.ev_steps.proofs.binders.push_all.Given as goal

abbrev pub invariant-loop-count : goal.invariant-loop-count
invariant-loop-count l = (l.count ≤ length l.nodes) × (l.tasks ≡ at_level l.height (drop l.count l.nodes) ++ l.initial.tasks)

abbrev pub decreases-loop-count : goal.decreases-loop-count
decreases-loop-count l = l.count
