-- The parts so far have their numbers.
use Rattle.std.proofs.Common.{◌≡◌, ◌+◌, map, take}
use Rattle.ev_piece.proofs.placing.numbers.Given as goal

abbrev pub invariant-loop-part : goal.invariant-loop-part
invariant-loop-part l = l.ids ≡ map (λ i. l.at + i) (take l.part-index l.offsets)
