-- the lines so far, and then the others, are all
use Rattle.std.proofs.Common.{◌≡◌, ◌++◌, drop}
use Rattle.std.specs.List.{flat_map}
use Rattle.def_vats.specs.Reading.{ended}
use Rattle.ev_make_text.proofs.bodies.push_ended.Given as goal

abbrev pub invariant-loop-line : goal.invariant-loop-line
invariant-loop-line l = l.out ++ flat_map ended (drop l.line-index l.lines) ≡ l.fn.out ++ flat_map ended l.lines
