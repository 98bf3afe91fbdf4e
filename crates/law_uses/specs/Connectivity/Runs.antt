-- Between the steps of a run no ejector and no audition is live.
use Rattle.std.specs.Prelude.{◌≡◌, ℕ, zero, false, List, ◌++◌, Some, slice_get}
use Rattle.def_machine.specs.Values.{Name}
use Rattle.def_machine.specs.State.{Vat}
use Rattle.def_run.specs.World.{Script, Program, Entry, World, Goes, begins, open_from, steps_from}
use Rattle.law_uses.specs.Connectivity.Liveness.{live_at}

-- in each vat of a world
abbrev pub NothingLive : World → Type 0
NothingLive w = (v : ℕ) (s : Vat Name) → slice_get w.vats v ≡ Some s → (i : ℕ) → live_at s.things i ≡ false

-- in the world after any of the opening turns, and after all of them and any entries
abbrev pub NothingLiveInRuns : Type 0
NothingLiveInRuns = (script : Script)
    → ((ps rest : List Program) (w : World) → script.vats ≡ ps ++ rest → open_from script zero ps (begins script) ≡ Goes w → NothingLive w)
    × ((w x : World) (es : List Entry) (k : ℕ) → open_from script zero script.vats (begins script) ≡ Goes w → steps_from script es k w ≡ Goes x → NothingLive x)
