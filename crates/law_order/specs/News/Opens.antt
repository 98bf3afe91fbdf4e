-- A note that opens a gift is carried: what is ahead of what after it.
use Rattle.std.specs.Prelude.{ℕ, false}
use Rattle.def_machine.specs.Values.{Name}
use Rattle.def_machine.specs.Refs.{Place, Mine, Away}

-- a name waits there, and no object
pub data WaitsAt (q : Name) : Place Name → Type 0 where
  at_home : WaitsAt q (Mine q)
  abroad : {h : ℕ} → WaitsAt q (Away h q false)
