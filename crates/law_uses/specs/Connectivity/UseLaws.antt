-- In every step, and in every run, each line is connected.
use Rattle.std.specs.Prelude.{◌≡◌, ℕ, zero, false, List, [], ◌++◌, Some, slice_get}
use Rattle.def_machine.specs.Values.{Naming, Name, naming, numbering}
use Rattle.def_machine.specs.State.{Message, Vat}
use Rattle.law_machine.specs.Machine.Steps.{Step}
use Rattle.def_run.specs.World.{Script, Program, Entry, World, Goes, readied, names, begins, open_from, steps_from}
use Rattle.law_uses.specs.Connectivity.Liveness.{live_at}
use Rattle.law_uses.specs.Connectivity.Connected.{StepConnected}

-- The lines of each step are connected, however it ends, from a vat in which nothing has happened in the step and nothing is live.
abbrev pub StepsConnect : {N W : Type 0} → Naming N W → Type 0
StepsConnect {N} {W} K = (step : Step N W) (s : Vat N) → s.happened ≡ [] → ((i : ℕ) → live_at s.things i ≡ false) → StepConnected K step s

-- under global names and under local numbers
abbrev pub StepsAreConnected : Type 0
StepsAreConnected = ((word : ℕ → ℕ) (v : ℕ) → StepsConnect (naming word v)) × ((word : ℕ → ℕ) → StepsConnect (numbering {W = Name} word))

-- Each step that a vat of a world may begin is connected: it is made ready for the step, and has any queue left, as a turn takes its message from the queue.
abbrev pub NextConnected : Script → World → Type 0
NextConnected script w = (v : ℕ) (s : Vat Name) → slice_get w.vats v ≡ Some s → (ms : List (Message Name)) (step : Step Name Name) → StepConnected (names script v) step (readied w (record s { queue = ms }))

-- in the world after any of the opening turns, and after all of them and any entries
abbrev pub RunConnected : Script → Type 0
RunConnected script =
    ((ps rest : List Program) (w : World) → script.vats ≡ ps ++ rest → open_from script zero ps (begins script) ≡ Goes w → NextConnected script w)
    × ((w x : World) (es : List Entry) (k : ℕ) → open_from script zero script.vats (begins script) ≡ Goes w → steps_from script es k w ≡ Goes x → NextConnected script x)

-- of every script
abbrev pub RunsAreConnected : Type 0
RunsAreConnected = (script : Script) → RunConnected script
