use Rattle.std.proofs.Common.{◌≡◌, ◌++◌}
use Rattle.std.specs.Prelude.{drop}
use Rattle.ev_world.specs.Exporting.{objects_for}
use Rattle.ev_world.proofs.exporting.objects_since.Given as goal

abbrev pub invariant-loop-position : goal.invariant-loop-position
invariant-loop-position l = l.objects.items ++ drop l.position (objects_for l.peer l.member) ≡ drop l.known (objects_for l.peer l.member)
