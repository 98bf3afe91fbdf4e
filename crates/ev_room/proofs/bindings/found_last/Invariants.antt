-- what is found among the bindings that are left is what is found in all
use Rattle.std.proofs.Common.{◌≡◌, ◌≤◌, length, take, None}
use Rattle.ev_room.specs.Acts.{found_from}
use Rattle.ev_room.proofs.bindings.found_last.Given as goal

abbrev pub invariant-loop-rest : goal.invariant-loop-rest
invariant-loop-rest l = (l.rest ≤ length l.nouns) × (found_from None (take l.rest l.nouns) l.noun ≡ found_from None l.nouns l.noun)

abbrev pub decreases-loop-rest : goal.decreases-loop-rest
decreases-loop-rest l = l.rest
