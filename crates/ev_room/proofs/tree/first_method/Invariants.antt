use Rattle.std.proofs.Common.{◌≡◌, drop}
use Rattle.ev_room.specs.Acts.{first_method}
use Rattle.ev_room.proofs.tree.first_method.Given as goal

-- the rest decides
abbrev pub invariant-loop-member : goal.invariant-loop-member
invariant-loop-member l = first_method l.tree (drop l.member-index l.members) l.verb l.count ≡ first_method l.tree l.members l.verb l.count
