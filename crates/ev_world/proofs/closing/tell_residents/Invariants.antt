use Rattle.std.proofs.Common.{◌≡◌, ◌++◌}
use Rattle.ev_world.specs.Closing.{all_left}
use Rattle.ev_world.proofs.closing.tell_residents.Given as goal

abbrev pub invariant-loop-resident : goal.invariant-loop-resident
invariant-loop-resident l = l.history ≡ l.initial.history ++ all_left l.yielded
