-- what is put so far
use Rattle.std.proofs.Common.{take}
use Rattle.def_why.specs.Marks.{all_handed}
use Rattle.ev_see_refusals.specs.Table.{Puts}
use Rattle.ev_see_refusals.proofs.marks.Marks.put_all_handed.Given as goal

abbrev pub invariant-loop-value : goal.invariant-loop-value
invariant-loop-value l = Puts (all_handed l.at (take l.value-index l.values)) l.index l.fn.self l.self
