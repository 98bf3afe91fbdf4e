-- What the laws of order ask of the state in which a step begins, in every world of a run.
use Rattle.std.specs.Prelude.{◌≡◌, ℕ, zero, Bool, List, ◌++◌, Some, slice_get}
use Rattle.def_machine.specs.Values.{Name, host_of}
use Rattle.def_machine.specs.State.{Message, Known, Vat}
use Rattle.def_machine.specs.Refs.{entry_of}
use Rattle.def_run.specs.World.{Script, Program, Entry, World, Goes, begins, open_from, steps_from, names, readied}
use Rattle.law_fate.specs.Name.Runs.{KnowsOnce}
use Rattle.law_order.specs.Ordering.Settle.{AllOn}
use Rattle.law_order.specs.Ordering.Steps.{Ready}

-- It holds of the world after any of the opening turns of a script, and after all of them and any entries.
abbrev pub InRunsOf : Script → (World → Type 0) → Type 0
InRunsOf script P =
    ((ps rest : List Program) (w : World) → script.vats ≡ ps ++ rest → open_from script zero ps (begins script) ≡ Goes w → P w)
    × ((w x : World) (es : List Entry) (k : ℕ) → open_from script zero script.vats (begins script) ≡ Goes w → steps_from script es k w ≡ Goes x → P x)

-- Of each script by which no vat is told twice that it knows a vat, or that it knows itself.
abbrev pub InRuns : (Script → World → Type 0) → Type 0
InRuns P = (script : Script) → KnowsOnce script → InRunsOf script (P script)

-- Each vat is ready for its next step, whatever is left of its queue.
abbrev pub VatsAreReady : Type 0
VatsAreReady = InRuns (λ script w. (honest : ℕ → Bool) (v : ℕ) (s : Vat Name) (ms : List (Message Name)) → slice_get w.vats v ≡ Some s → Ready script honest w v (readied w (record s { queue = ms })))

-- What a name holds was sent on it.
abbrev pub HeldIsOnItsName : Type 0
HeldIsOnItsName = (script : Script) → InRunsOf script (λ w. (v : ℕ) (s : Vat Name) (n : Name) (k : Known Name) → slice_get w.vats v ≡ Some s → entry_of (names script v) s.known n ≡ Some k → AllOn n k.held)

-- The host that a vat has for a name is that of the name.
abbrev pub HostsAreOfNames : Type 0
HostsAreOfNames = InRuns (λ script w. (v : ℕ) (s : Vat Name) (n : Name) (k : Known Name) → slice_get w.vats v ≡ Some s → entry_of (names script v) s.known n ≡ Some k → k.host ≡ host_of n)
