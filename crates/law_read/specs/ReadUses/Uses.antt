-- What is read of the text of a run is judged as its history.
use Rattle.std.specs.Prelude.{◌≡◌, ℕ, List, None, Ok}
use Rattle.def_kernel.specs.declared.node.Node.{Node}
use Rattle.def_run.specs.World.{run}
use Rattle.def_event.specs.Uses.{JudgesUses}
use Rattle.ev_script.specs.Script as script
use Rattle.ev_script.specs.declared.script.Script.{Script}
use Rattle.law_read.specs.ReadScripts.Runs.{AreReadTo}
use Rattle.law_read.specs.ReadTexts.Runs.{trace_of}
use Rattle.law_schedule.specs.Scripts.{machine_script}
use Rattle.law_text.specs.Text.Runs.{events_of}
use Rattle.law_trace.specs.UsesSeen.Alike.{HoldAlike}

-- Law: of a script that is read, and so are its programs, the history of the run, with its frames, and what is read of its text.
abbrev pub UsesAreJudgedAsRead : Type 0
UsesAreJudgedAsRead = (bytes : List ℕ) (s : Script) → script.read bytes ≡ Ok s → (depth : ℕ) (tree : ℕ → List Node) → AreReadTo s tree
    → HoldAlike (events_of (run (machine_script depth tree s))) (trace_of (machine_script depth tree s) (run (machine_script depth tree s))).history

-- Law: the judge of uses finds no line of either that fails.
abbrev pub TextsHoldUses : Type 0
TextsHoldUses = (bytes : List ℕ) (s : Script) → script.read bytes ≡ Ok s → (depth : ℕ) (tree : ℕ → List Node) → AreReadTo s tree
    → JudgesUses (events_of (run (machine_script depth tree s))) None × JudgesUses (trace_of (machine_script depth tree s) (run (machine_script depth tree s))).history None
