use Rattle.std.proofs.Common.{◌≡◌, ◌≤◌, take}
use Rattle.ev_heap.specs.Contents.{height_of_all, most_height}
use Rattle.ev_heap.proofs.heap.Heap.list_height.Given as goal

abbrev pub invariant-loop-member : goal.invariant-loop-member
invariant-loop-member l = (l.height ≡ height_of_all l.self (take l.member-index l.members)) × (l.height ≤ most_height)
