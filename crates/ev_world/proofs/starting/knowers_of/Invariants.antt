-- Those so far are there, and then those from the place on.
use Rattle.std.proofs.Common.{◌≡◌, ◌++◌, drop}
use Rattle.def_run.specs.World.{knowers}
use Rattle.ev_world.specs.Starting.{bare, bare_from}
use Rattle.ev_world.proofs.starting.knowers_of.Given as goal

abbrev pub invariant-loop-place : goal.invariant-loop-place
invariant-loop-place l = l.found.items ++ knowers l.vat l.place (bare_from l.place (drop l.place l.vats)) ≡ knowers l.vat 0 (bare l.vats)
