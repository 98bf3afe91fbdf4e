use Rattle.std.proofs.Common.{◌≡◌, drop}
use Rattle.ev_arrive.specs.Learning.{are_kept}
use Rattle.ev_arrive.proofs.learning.each_kept.Given as goal

-- the rest decides
abbrev pub invariant-loop-value : goal.invariant-loop-value
invariant-loop-value l = are_kept l.heap (drop l.value-index l.values) ≡ are_kept l.heap l.values
