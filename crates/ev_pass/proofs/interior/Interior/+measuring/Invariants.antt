use Rattle.std.proofs.Common.{◌≡◌, ◌+◌, ◌*◌, drop}
use Rattle.ev_pass.specs.Measuring.{room_after, rooms}
use Rattle.ev_pass.proofs.interior.Interior.+measuring.Given as goal

abbrev pub decreases-room_after : goal.decreases-room_after
decreases-room_after l = 3 * l.depth + 1

abbrev pub decreases-room_in : goal.decreases-room_in
decreases-room_in l = 3 * l.depth

abbrev pub decreases-room_behind : goal.decreases-room_behind
decreases-room_behind l = 3 * l.depth + 2

-- the rest leaves what all of them leave
abbrev pub invariant-room_behind-loop-member : goal.invariant-room_behind-loop-member
invariant-room_behind-loop-member l =
    rooms (λ v left. room_after l.depth l.self.refs l.self.heap v left) (drop l.member-index l.members) l.left ≡ rooms (λ v left. room_after l.depth l.self.refs l.self.heap v left) l.members l.room
