-- What was gone on from is not led to by anything known.
use Rattle.std.proofs.Common.{◌-◌, ◌^◌}
use Rattle.ev_known.proofs.Going.{Going}
use Rattle.ev_known.proofs.knowledge.Knowledge.search.Given as goal

abbrev pub invariant-loop-index : goal.invariant-loop-index
invariant-loop-index l = Going l.self l.activation l.fn.labels l.labels l.index

abbrev pub decreases-loop-index : goal.decreases-loop-index
decreases-loop-index l = 2 ^ 64 - l.index
