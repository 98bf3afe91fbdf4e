use Rattle.std.proofs.Common.{◌≡◌, ◌≤◌, take}
use Rattle.ev_heap.specs.Contents.{weight_of_all, most_weight}
use Rattle.ev_heap.proofs.heap.Heap.list_weight.Given as goal

abbrev pub invariant-loop-member : goal.invariant-loop-member
invariant-loop-member l = (l.weight ≡ weight_of_all l.self (take l.member-index l.members)) × (l.weight ≤ most_weight)
