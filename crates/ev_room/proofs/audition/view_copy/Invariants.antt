use Rattle.std.proofs.Common.{◌≡◌, take}
use Rattle.ev_room.proofs.audition.view_copy.Given as goal

abbrev pub invariant-loop-name : goal.invariant-loop-name
invariant-loop-name l = l.names ≡ take l.name-index l.view.names
