use Rattle.std.proofs.Common.{◌≡◌}
use Rattle.ev_world.specs.Pushing.{all_pushed}
use Rattle.ev_world.proofs.pushing.push_out.Given as goal

abbrev pub invariant-loop-out : goal.invariant-loop-out
invariant-loop-out l = l.ways ≡ all_pushed l.from l.yielded l.initial.ways
