-- The order of plays without hostile vats.
use Rattle.std.specs.Prelude.{[]}
use Rattle.def_run.specs.World.{Script}
use Rattle.def_hostile.specs.Hostile.{acts}
use Rattle.law_instance.specs.Honest.{honest, IsAccepted}
use Rattle.law_instance.specs.Corollaries.{events_told}
use Rattle.law_hostile_order.specs.Strays.{Ordered}

-- Law: what a play without hostile vats tells is in order, to its end or to where it stops.
abbrev pub HonestPlaysAreOrdered : Type 0
HonestPlaysAreOrdered = (script : Script) → IsAccepted script → Ordered [] (events_told (acts (honest script)))
