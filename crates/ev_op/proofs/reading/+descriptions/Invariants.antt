use Rattle.std.proofs.Common.{◌≡◌, ◌+◌, ◌-◌, ◌*◌}
use Rattle.def_op.specs.Views.{all_described}
use Rattle.def_op.specs.Reading.{members_at, member_at}
use Rattle.ev_op.proofs.Loop.{with_front, depth_of}
use Rattle.ev_op.proofs.reading.+descriptions.Given as goal

abbrev pub decreases-desc_of : goal.decreases-desc_of
decreases-desc_of l = 5 * l.height

abbrev pub decreases-free_of : goal.decreases-free_of
decreases-free_of l = 505

abbrev pub decreases-list_of : goal.decreases-list_of
decreases-list_of l = 5 * l.height + 3

abbrev pub decreases-member_of : goal.decreases-member_of
decreases-member_of l = 5 * depth_of l.inside + 1

abbrev pub decreases-members_of : goal.decreases-members_of
decreases-members_of l = 5 * depth_of l.inside + 2

abbrev pub invariant-members_of-loop : goal.invariant-members_of-loop
invariant-members_of-loop l =
    with_front (all_described l.members.items) (members_at (member_at l.inside) (l.count - l.counter) l.left l.rest)
    ≡ members_at (member_at l.inside) l.count l.room l.bytes
