-- In every state of every run of a script, what objects with DeepFrozen's stamp reach is frozen.
use Rattle.std.specs.Prelude.{◌≡◌, ℕ, zero, List, ◌++◌, Some, slice_get}
use Rattle.def_machine.specs.Values.{Name}
use Rattle.def_machine.specs.State.{Vat}
use Rattle.def_run.specs.World.{Script, Program, Entry, World, Goes, begins, open_from, steps_from, run, names}
use Rattle.law_frozen.specs.Frozen.{FrozenReach}

-- in each vat of a world
abbrev pub ReachIsFrozenIn : Script → World → Type 0
ReachIsFrozenIn script w = (v : ℕ) (s : Vat Name) → slice_get w.vats v ≡ Some s → FrozenReach (names script v) s

-- in the world after any of the opening turns, and after all of them and any entries
abbrev pub ReachIsFrozenInRuns : Type 0
ReachIsFrozenInRuns = (script : Script)
    → ((ps rest : List Program) (w : World) → script.vats ≡ ps ++ rest → open_from script zero ps (begins script) ≡ Goes w → ReachIsFrozenIn script w)
    × ((w x : World) (es : List Entry) (k : ℕ) → open_from script zero script.vats (begins script) ≡ Goes w → steps_from script es k w ≡ Goes x → ReachIsFrozenIn script x)

-- and in the world in which a whole run ends
abbrev pub ReachIsFrozenAtTheEnd : Type 0
ReachIsFrozenAtTheEnd = (script : Script) (w : World) → run script ≡ Goes w → ReachIsFrozenIn script w
