-- Worlds that a run comes to, and what is asked of a script so that the lines of its run tell whose code its activations run.
use Rattle.std.specs.Prelude.{◌≡◌, ℕ, zero, List, ◌++◌, ◌⊎◌}
use Rattle.def_machine.specs.Values.{Value, Name}
use Rattle.def_machine.specs.State.{Happened}
use Rattle.def_run.specs.World.{Script, Program, Entry, Event, World, Goes, events_of, begins, open_from, steps_from}
use Rattle.def_run.specs.Shown as show
use Rattle.law_fate.specs.Name.Runs.{KnowsOnce}
use Rattle.law_reference.specs.Reference.Cuts.{NoticesFollowCuts}
use Rattle.law_uses.specs.Connectivity.Known.{Holdings}
use Rattle.law_uses.specs.Connectivity.Connected.{held_from}
use Rattle.law_uses.specs.Connectivity.Begotten.{LineOf}
use Rattle.law_uses.specs.Running.Running.{SettledApart}
use Rattle.def_event.specs.Uses.{Thing, things_of}

-- a world that the run of the script comes to: after some of its opening turns, or after all of them and some of its entries
abbrev pub IsPassed : Script → World → Type 0
IsPassed script x =
    ((ps rest : List Program) × (script.vats ≡ ps ++ rest) × (open_from script zero ps (begins script) ≡ Goes x))
    ⊎ ((w : World) × (es rest : List Entry) × (k : ℕ) × (script.schedule ≡ es ++ rest) × (open_from script zero script.vats (begins script) ≡ Goes w) × (steps_from script es k w ≡ Goes x))

-- What is asked of a script and of the draws by which its names are shown: each vat knows each other once, each notice stands behind its cut, and names that settled at one vat are shown as different names.
abbrev pub IsShownApart : Script → List ℕ → Type 0
IsShownApart script draws = KnowsOnce script × NoticesFollowCuts script.schedule × SettledApart script draws

-- the things that a value of vat v is shown as
abbrev pub things_at : List ℕ → ℕ → Value Name → List Thing
things_at draws v x = things_of (show.shown_value draws v x)

-- the events before a line of a step, and what the vat had before the step
abbrev pub lines_so : {script : Script} {w : World} {v : ℕ} {e : Happened Name} → LineOf script w v e → List Event
lines_so {v = v} l = l.from.history ++ l.head ++ events_of l.links v l.so

abbrev pub first_of : {script : Script} {w : World} {v : ℕ} {e : Happened Name} → LineOf script w v e → Holdings Name Name
first_of l = held_from l.step l.before l.before
