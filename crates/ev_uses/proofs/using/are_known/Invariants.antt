-- Those so far are known or made.
use Rattle.std.proofs.Common.{take, true}
use Rattle.def_event.specs.Uses.{names}
use Rattle.ev_uses.specs.Using.{DecidesAll}
use Rattle.ev_uses.proofs.using.are_known.Given as goal

abbrev pub invariant-loop-value : goal.invariant-loop-value
invariant-loop-value l = DecidesAll l.fn.knowledge l.knowledge l.activation l.made (names (take l.value-index l.values)) true
