-- what is found among those that are left is what is found in all
use Rattle.std.proofs.Common.{◌≡◌, ◌-◌, length, drop, None}
use Rattle.std.specs.Prelude.{map, reverse}
use Rattle.ev_room.specs.Held.{binding_back}
use Rattle.ev_room.specs.Acts.{found_from}
use Rattle.ev_room.proofs.bindings.found_held.Given as goal

abbrev pub invariant-loop-at : goal.invariant-loop-at
invariant-loop-at l = found_from None (reverse (map binding_back (drop l.at l.held))) l.noun ≡ found_from None (reverse (map binding_back (drop l.gone l.held))) l.noun

abbrev pub decreases-loop-at : goal.decreases-loop-at
decreases-loop-at l = length l.held - l.at
