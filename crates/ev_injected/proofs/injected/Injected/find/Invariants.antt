use Rattle.std.proofs.Common.{◌≡◌, take, None}
use Rattle.ev_injected.specs.Lanes.{place}
use Rattle.ev_injected.proofs.injected.Injected.find.Given as goal

abbrev pub invariant-loop-lane : goal.invariant-loop-lane
invariant-loop-lane l = (l.index ≡ l.lane-index) × (place l.from l.to (take l.lane-index l.lane-items) ≡ None)
