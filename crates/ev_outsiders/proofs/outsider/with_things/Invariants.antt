use Rattle.std.proofs.Common.{◌≡◌, drop}
use Rattle.ev_outsiders.specs.Counting.{made_more, outsider_of}
use Rattle.ev_outsiders.proofs.outsider.with_things.Given as goal

abbrev pub invariant-loop-kind : goal.invariant-loop-kind
invariant-loop-kind l = made_more (drop l.kind-index l.kinds) 0 (outsider_of l.found) ≡ made_more l.kinds 0 (outsider_of l.fn.outsider)
