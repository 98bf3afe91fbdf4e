-- the others are as all
use Rattle.std.proofs.Common.{◌≡◌, ◌-◌, drop, length}
use Rattle.def_why.specs.Values.{each_may_be}
use Rattle.ev_see_refusals.proofs.values.may_all_be.Given as goal

abbrev pub invariant-loop-index : goal.invariant-loop-index
invariant-loop-index l = each_may_be (drop l.index l.values) (drop l.index l.later) ≡ each_may_be l.values l.later

abbrev pub decreases-loop-index : goal.decreases-loop-index
decreases-loop-index l = length l.values - l.index
