-- Plays with other fuel, so that some step stops.
use Rattle.std.specs.Prelude.{ℕ, Bool, true, false}
use Rattle.def_hostile.specs.Hostile.{Play}
use Rattle.def_hostile.specs.Numbers.{Performed, Performs, Ceases}

abbrev pub with_fuel : ℕ → Play → Play
with_fuel n play = record play { script = record play.script { fuel = n } }

unfoldable pub stops : Performed → Bool
stops (Performs c) = false
stops (Ceases e k c) = true

-- opens each definition of this file
unfoldable pub opened_stops : Unit {0}
unfolding stops
opened_stops = tt
