-- the rest decides
use Rattle.std.proofs.Common.{◌≡◌, drop}
use Rattle.ev_heap.specs.Contents.{are_plain}
use Rattle.ev_heap.proofs.heap.Heap.are_plain.Given as goal

abbrev pub invariant-loop-member : goal.invariant-loop-member
invariant-loop-member l = are_plain l.self (drop l.member-index l.members) ≡ are_plain l.self l.members
