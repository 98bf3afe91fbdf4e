use Rattle.std.proofs.Common.{◌≡◌, ◌≤◌, length, take}
use Rattle.ev_parser.proofs.Stacks.{lowered_by}
use Rattle.ev_parser.proofs.frames.Frames.lowered.Given as goal

abbrev pub invariant-loop-left : goal.invariant-loop-left
invariant-loop-left l = (l.left ≤ length l.self-inside.stands.items) × (lowered_by (take l.left l.self-inside.stands.items) l.height ≡ lowered_by l.self-inside.stands.items l.fn.height)

abbrev pub decreases-loop-left : goal.decreases-loop-left
decreases-loop-left l = l.left
