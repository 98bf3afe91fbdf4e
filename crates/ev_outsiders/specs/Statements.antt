-- What holds of the counts at the start of a run.
use Rattle.std.specs.Prelude.{◌≡◌, List, length, replicate}
use Rattle.def_run.specs.World.{Program}
use Rattle.def_hostile.specs.Outsiders.{nobody, starting}

abbrev pub OutsidersStart : Type 0
OutsidersStart = (ps : List Program) → starting ps ≡ replicate (length ps) nobody
