use Rattle.std.proofs.Common.{◌≡◌, drop}
use Rattle.ev_room.specs.Sound.{are_there}
use Rattle.ev_room.proofs.data.each_there.Given as goal

-- the rest decides
abbrev pub invariant-loop-value : goal.invariant-loop-value
invariant-loop-value l = are_there l.heap (drop l.value-index l.values) ≡ are_there l.heap l.values
