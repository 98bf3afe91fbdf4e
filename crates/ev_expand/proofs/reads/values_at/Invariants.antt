-- The parts so far are copied.
use Rattle.std.proofs.Common.{◌≡◌, map, take}
use Rattle.ev_expand.specs.Table.{value_at}
use Rattle.ev_expand.proofs.reads.values_at.Given as goal

abbrev pub invariant-loop-id : goal.invariant-loop-id
invariant-loop-id l = l.pieces ≡ map (λ i. value_at l.done i) (take l.id-index l.ids)
