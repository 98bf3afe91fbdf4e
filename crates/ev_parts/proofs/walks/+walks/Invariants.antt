use Rattle.std.proofs.Common.{◌≡◌, ◌+◌, ◌-◌, ◌*◌}
use Rattle.def_op.specs.Items.{walk_members, walk_member}
use Rattle.ev_parts.proofs.WalkLoop.{depth_of}
use Rattle.ev_parts.proofs.walks.+walks.Given as goal

abbrev pub decreases-desc : goal.decreases-desc
decreases-desc l = 5 * l.height

abbrev pub decreases-free : goal.decreases-free
decreases-free l = 505

abbrev pub decreases-list : goal.decreases-list
decreases-list l = 5 * l.height + 3

abbrev pub decreases-member : goal.decreases-member
decreases-member l = 5 * depth_of l.inside + 1

abbrev pub decreases-members : goal.decreases-members
decreases-members l = 5 * depth_of l.inside + 2

abbrev pub invariant-members-loop : goal.invariant-members-loop
invariant-members-loop l =
    walk_members (walk_member l.total l.inside) (l.count - l.counter) l.left l.spots.items l.rest
    ≡ walk_members (walk_member l.total l.inside) l.count l.room l.initial.spots.items l.bytes
