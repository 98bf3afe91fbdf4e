-- the nodes from this one on stand before what was there
use Rattle.std.proofs.Common.{◌≡◌, ◌≤◌, ◌++◌, length, map, drop}
use Rattle.ev_reader.specs.Tasks.{visits}
use Rattle.ev_reader.proofs.task.push_visits.Given as goal

abbrev pub invariant-loop-count : goal.invariant-loop-count
invariant-loop-count l = (l.count ≤ length l.ids) × (l.tasks ≡ visits l.height (drop l.count l.ids) ++ l.initial.tasks)

abbrev pub decreases-loop-count : goal.decreases-loop-count
decreases-loop-count l = l.count
