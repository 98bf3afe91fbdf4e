-- The catches so far are copied.
use Rattle.std.proofs.Common.{◌≡◌, map, take}
use Rattle.ev_expand.specs.Table.{pair_at}
use Rattle.ev_expand.proofs.reads.pairs_at.Given as goal

abbrev pub invariant-loop-pattern : goal.invariant-loop-pattern
invariant-loop-pattern l = l.pairs ≡ map (λ c. pair_at l.done c) (take l.pattern-index l.catches)
