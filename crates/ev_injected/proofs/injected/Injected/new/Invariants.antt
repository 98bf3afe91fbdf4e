use Rattle.std.proofs.Common.{◌≡◌}
use Rattle.ev_injected.specs.Lanes.{fresh_from}
use Rattle.ev_injected.proofs.injected.Injected.new.Given as goal

abbrev pub invariant-loop-from : goal.invariant-loop-from
invariant-loop-from l = l.lanes.items ≡ fresh_from l.vats l.from
