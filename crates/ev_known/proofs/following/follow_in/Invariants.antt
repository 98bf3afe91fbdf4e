-- The walk so far.
use Rattle.std.proofs.Common.{◌≡◌, ◌-◌, ◌^◌, length, []}
use Rattle.ev_known.specs.Following.{ChainsStand}
use Rattle.ev_known.proofs.Walking.{Walking}
use Rattle.ev_known.proofs.following.follow_in.Given as goal

abbrev pub invariant-loop-seen : goal.invariant-loop-seen
invariant-loop-seen l = l.fn.seen ≡ [] → ChainsStand l.plan l.told l.settled → Walking l.settled l.viewed l.at l.fn.name l.seen l.current

abbrev pub decreases-loop-seen : goal.decreases-loop-seen
decreases-loop-seen l = 2 ^ 64 - length l.seen
