-- In every run each message that is sent has one place or one fate.
use Rattle.std.specs.Prelude.{◌≡◌, ℕ, ◌+◌, ◌≤◌, ◌<◌, Some, length, slice_get}
use Rattle.def_machine.specs.Values.{Name}
use Rattle.def_machine.specs.State.{Note, Deliver, Open, Ask, SettledTo, Elsewhere, Shorten, Put, Vat, Done, Gives, Throws, Ejects, Stops}
use Rattle.law_machine.specs.Machine.Steps.{Step, does}
use Rattle.def_run.specs.World.{Script, Program, World, Goes, names, run}
use Rattle.law_fate.specs.Name.Names.{AllOf}
use Rattle.law_fate.specs.Name.Runs.{KnowsOnce}
use Rattle.law_fate.specs.Fates.Fate.{places, sent, fates}
use Rattle.law_fate.specs.Fates.Steps.{OfEachStep, InRunsOf}

-- each vat of the script knows only vats of the script
abbrev pub KnowsVats : Script → Type 0
KnowsVats script = (v : ℕ) (p : Program) → slice_get script.vats v ≡ Some p → AllOf (λ (u : ℕ). u < length script.vats) p.knows

-- a deliver note of vat v is put to another of so many vats
abbrev pub GoesToVat : ℕ → ℕ → ℕ → Note Name → Type 0
GoesToVat count v to (Deliver m n verb ys) = to < count × (v ≡ to → ⊥)
GoesToVat count v to (Open i n) = Unit {0}
GoesToVat count v to (Ask p i n) = Unit {0}
GoesToVat count v to (SettledTo n y) = Unit {0}
GoesToVat count v to (Elsewhere n c) = Unit {0}
GoesToVat count v to (Shorten n c i) = Unit {0}

-- each of the notes that were put, where it gives
abbrev pub PutsToVats : ℕ → ℕ → Done Name (Unit {0}) → Type 0
PutsToVats count v (Gives a t) = AllOf (λ (p : Put Name). GoesToVat count v p.to p.note) t.outbox
PutsToVats count v (Throws p t) = Unit {0}
PutsToVats count v (Ejects n y t) = Unit {0}
PutsToVats count v (Stops c t) = Unit {0}

abbrev pub StepPutsToVats : Script → ℕ → (Name → ℕ) → Step Name Name → Vat Name → Type 0
StepPutsToVats script v came step s = PutsToVats (length script.vats) v (does (names script v) step s)

-- in every world of the runs of that script, each deliver note that a step of a vat puts is put to another vat of the script
abbrev pub NotesGoToVats : Script → Type 0
NotesGoToVats script = InRunsOf script (λ w. OfEachStep script w (StepPutsToVats script))

-- so it is where each vat of a script knows only vats of it
abbrev pub NotesGoToVatsOfTheRun : Type 0
NotesGoToVatsOfTheRun = (script : Script) → KnowsOnce script → KnowsVats script → NotesGoToVats script

-- in every world of a run each message has as many places, takes and losses as sends
abbrev pub EachMessageHasAFate : Type 0
EachMessageHasAFate = (script : Script) → KnowsOnce script → KnowsVats script → (x : Name) → InRunsOf script (λ w. places x w + fates x w.history ≡ sent x w.history)

-- in the history of a whole run, with its closing list, each message has as many fates as it was sent, and of these there is one at most
abbrev pub ExactlyOneFate : Type 0
ExactlyOneFate = (script : Script) → KnowsOnce script → KnowsVats script → (x : Name) (w : World) → run script ≡ Goes w → (fates x w.history ≡ sent x w.history) × (sent x w.history ≤ 1)
