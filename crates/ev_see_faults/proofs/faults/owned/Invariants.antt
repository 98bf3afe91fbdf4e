-- the lines so far
use Rattle.std.proofs.Common.{◌≡◌, map, take}
use Rattle.ev_see_faults.proofs.faults.owned.Given as goal

abbrev pub invariant-loop-line : goal.invariant-loop-line
invariant-loop-line l = l.found ≡ map (λ line. line.now) (take l.line-index l.lines)
