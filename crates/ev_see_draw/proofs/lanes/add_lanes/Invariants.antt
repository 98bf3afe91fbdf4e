-- what the rest will add to the lanes so far is what all add
use Rattle.std.proofs.Common.{◌≡◌, drop}
use Rattle.def_draw.specs.Diagram.{with_lanes}
use Rattle.ev_see_draw.proofs.lanes.add_lanes.Given as goal

abbrev pub invariant-loop-vat : goal.invariant-loop-vat
invariant-loop-vat l = with_lanes l.lanes (drop l.vat-index l.vats) ≡ with_lanes l.fn.lanes l.vats
