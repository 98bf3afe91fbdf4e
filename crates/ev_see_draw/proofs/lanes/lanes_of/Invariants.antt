-- what the lines behind will add to the lanes so far is what all add
use Rattle.std.proofs.Common.{◌≡◌, [], drop}
use Rattle.def_draw.specs.Diagram.{lanes_from}
use Rattle.ev_see_draw.proofs.lanes.lanes_of.Given as goal

abbrev pub invariant-loop-line : goal.invariant-loop-line
invariant-loop-line l = lanes_from l.lanes (drop l.line-index l.lines) ≡ lanes_from [] l.lines
