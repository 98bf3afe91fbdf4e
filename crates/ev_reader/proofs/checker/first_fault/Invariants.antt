-- doing what is left leads to what the whole leads to
use Rattle.std.proofs.Common.{◌≡◌, length}
use Rattle.ev_reader.specs.Scopes.{scan, started}
use Rattle.ev_reader.proofs.TaskLemmas.{all_done}
use Rattle.ev_reader.proofs.Weights.{weight}
use Rattle.ev_reader.proofs.checker.first_fault.Given as goal

abbrev pub invariant-loop-task : goal.invariant-loop-task
invariant-loop-task l = all_done l.nodes l.tasks l.scan ≡ scan l.nodes (length l.nodes) 0 (started l.given)

abbrev pub decreases-loop-task : goal.decreases-loop-task
decreases-loop-task l = weight l.nodes l.tasks
