-- Histories that a run comes to.
use Rattle.std.specs.Prelude.{◌≡◌, zero, List, ◌++◌}
use Rattle.def_run.specs.World.{Script, Program, Entry, Event, World, Goes, begins, open_from, steps_from}

-- a world that the run of the script comes to: after some of its opening turns, or after all of them and some of its entries
pub data IsOfRun (script : Script) : World → Type 0 where
  opened : {w : World} (ps rest : List Program) → script.vats ≡ ps ++ rest → open_from script zero ps (begins script) ≡ Goes w → IsOfRun script w
  entered : {w : World} (es rest : List Entry) (x : World) → script.schedule ≡ es ++ rest → open_from script zero script.vats (begins script) ≡ Goes x → steps_from script es 1 x ≡ Goes w → IsOfRun script w

-- The history of a world of the run begins with these lines.
pub record IsTold (script : Script) (done : List Event) : Type 0 where
  pub world : World
  pub of_run : IsOfRun script world
  pub rest : List Event
  pub lines : world.history ≡ done ++ rest
