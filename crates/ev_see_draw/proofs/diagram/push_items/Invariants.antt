-- what is written, and what the lines behind will add, is what all add
use Rattle.std.proofs.Common.{◌≡◌, ◌++◌, [], drop, string_bytes}
use Rattle.def_draw.specs.Diagram.{items_from, ends}
use Rattle.ev_see_draw.proofs.diagram.push_items.Given as goal

abbrev pub invariant-loop-line : goal.invariant-loop-line
invariant-loop-line l = string_bytes l.out ++ items_from l.lanes (ends l.from l.to) (drop l.line-index l.lines) ≡ string_bytes l.fn.out ++ items_from l.lanes (ends [] []) l.lines
