-- the place among those left, counted from the first
use Rattle.std.proofs.Common.{◌≡◌, ◌+◌, drop}
use Rattle.def_draw.specs.Diagram.{place_of}
use Rattle.ev_see_draw.proofs.lanes.place_of.Given as goal

abbrev pub invariant-loop-place : goal.invariant-loop-place
invariant-loop-place l = l.place + place_of l.vat (drop l.place l.lanes) ≡ place_of l.vat l.lanes
