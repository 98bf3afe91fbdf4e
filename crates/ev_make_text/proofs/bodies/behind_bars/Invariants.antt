-- the parts so far, and then those of the other lines, are all
use Rattle.std.proofs.Common.{◌≡◌, ◌++◌, drop}
use Rattle.std.specs.List.{flat_map}
use Rattle.def_vats.specs.Reading.{behind_bar}
use Rattle.ev_make_text.proofs.bodies.behind_bars.Given as goal

abbrev pub invariant-loop-line : goal.invariant-loop-line
invariant-loop-line l = l.parts ++ flat_map behind_bar (drop l.line-index l.lines) ≡ flat_map behind_bar l.lines
