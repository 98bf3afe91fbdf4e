use Rattle.std.proofs.Common.{◌≡◌}
use Rattle.ev_heap.specs.Contents.{Contents}
use Rattle.def_machine.specs.Native.{counted}
use Rattle.ev_prims.specs.Reading.{values_in}
use Rattle.ev_prims.proofs.ranges.counted.Given as goal

abbrev pub invariant-loop-index : goal.invariant-loop-index
invariant-loop-index l = (h : Contents) → values_in h l.all ≡ counted l.first l.index
