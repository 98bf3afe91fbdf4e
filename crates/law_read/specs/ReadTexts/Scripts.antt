-- The texts of the runs of scripts that are read, and so are their programs.
use Rattle.std.specs.Prelude.{◌≡◌, ℕ, List, Ok}
use Rattle.def_kernel.specs.declared.node.Node.{Node}
use Rattle.def_run.specs.World.{run}
use Rattle.def_run.specs.Text.{text, vat_names}
use Rattle.ev_script.specs.Script as script
use Rattle.ev_script.specs.declared.script.Script.{Script}
use Rattle.ev_trace.specs.Reading.{read}
use Rattle.law_read.specs.ReadScripts.Runs.{AreReadTo}
use Rattle.law_schedule.specs.Scripts.{machine_script}
use Rattle.law_text.specs.Text.Feeds.{AllOf}
use Rattle.law_trace.specs.Trace.Readable.{Below, IsRead}
use Rattle.law_read.specs.ReadTexts.Runs.{TellsLowOf, shown_of, trace_of}

-- Law: the line of each event of the run of a script that is read, of programs that are read, is read again.
abbrev pub EventsOfReadScriptsAreRead : Type 0
EventsOfReadScriptsAreRead = (bytes : List ℕ) (s : Script) → script.read bytes ≡ Ok s → (depth : ℕ) (tree : ℕ → List Node) → AreReadTo s tree
    → AllOf (IsRead (Below (vat_names (machine_script depth tree s)))) (shown_of (run (machine_script depth tree s)))

-- Law: so is the text of its run, where a stop for a word that was drawn before tells of words by numbers of 64 bits.
abbrev pub TextsOfReadScriptsAreRead : Type 0
TextsOfReadScriptsAreRead = (bytes : List ℕ) (s : Script) → script.read bytes ≡ Ok s → (depth : ℕ) (tree : ℕ → List Node) → AreReadTo s tree → TellsLowOf (run (machine_script depth tree s))
    → read (text (machine_script depth tree s) (run (machine_script depth tree s))) ≡ Ok (trace_of (machine_script depth tree s) (run (machine_script depth tree s)))
