-- A run that is in order, and what is read of its text.
use Rattle.std.specs.Prelude.{◌≡◌, ℕ, List, None, Ok}
use Rattle.def_kernel.specs.declared.node.Node.{Node}
use Rattle.def_run.specs.World.{run}
use Rattle.def_run.specs.Text.{history_of}
use Rattle.def_event.specs.Order.{JudgesOrder}
use Rattle.ev_script.specs.Script as script
use Rattle.ev_script.specs.declared.script.Script.{Script}
use Rattle.law_order.specs.Ordering.Order.{Ordered}
use Rattle.law_read.specs.ReadScripts.Runs.{AreReadTo}
use Rattle.law_read.specs.ReadTexts.Runs.{trace_of}
use Rattle.law_schedule.specs.Scripts.{machine_script}
use Rattle.law_text.specs.Text.Runs.{events_of}

-- Law: of a script that is read, and so are its programs, the history of the run, with its frames, and what is read of its text.
abbrev pub OrderIsKeptAsRead : Type 0
OrderIsKeptAsRead = (bytes : List ℕ) (s : Script) → script.read bytes ≡ Ok s → (depth : ℕ) (tree : ℕ → List Node) → AreReadTo s tree
    → JudgesOrder (events_of (run (machine_script depth tree s))) None → JudgesOrder (trace_of (machine_script depth tree s) (run (machine_script depth tree s))).history None

-- Law: where the run is in order, the judge of order finds no message in either that is taken too early.
abbrev pub TextsKeepOrder : Type 0
TextsKeepOrder = (bytes : List ℕ) (s : Script) → script.read bytes ≡ Ok s → (depth : ℕ) (tree : ℕ → List Node) → AreReadTo s tree
    → Ordered (history_of (run (machine_script depth tree s)))
    → JudgesOrder (events_of (run (machine_script depth tree s))) None × JudgesOrder (trace_of (machine_script depth tree s) (run (machine_script depth tree s))).history None
