-- the entries so far, and then the rounds that are left, are the entries of all
use Rattle.std.proofs.Common.{◌≡◌, ◌++◌}
use Rattle.std.specs.List.{repeat}
use Rattle.ev_script.proofs.schedule.push_rounds.Given as goal

abbrev pub invariant-loop-left : goal.invariant-loop-left
invariant-loop-left l = l.out.items ++ repeat l.left l.round ≡ l.fn.out.items ++ repeat l.rounds l.round

abbrev pub decreases-loop-left : goal.decreases-loop-left
decreases-loop-left l = l.left
