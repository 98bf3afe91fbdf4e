use Rattle.std.proofs.Common.{◌≡◌, ◌++◌}
use Rattle.ev_injected.specs.Lanes.{fresh_to}
use Rattle.ev_injected.proofs.injected.add_lanes.Given as goal

abbrev pub invariant-loop-to : goal.invariant-loop-to
invariant-loop-to l = l.lanes.items ≡ l.fn.lanes.items ++ fresh_to l.from l.to
