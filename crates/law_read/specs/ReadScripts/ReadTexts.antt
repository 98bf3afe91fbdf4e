-- The texts of the runs of scripts whose programs are read.
use Rattle.std.specs.Prelude.{◌≡◌, ℕ, List, Ok}
use Rattle.def_kernel.specs.declared.node.Node.{Node}
use Rattle.def_run.specs.World.{run}
use Rattle.def_run.specs.Text.{vat_names}
use Rattle.ev_script.specs.Script.{read}
use Rattle.ev_script.specs.declared.script.Script.{Script}
use Rattle.law_schedule.specs.Scripts.{machine_script}
use Rattle.law_text.specs.RunTexts.Laws.{IsBounded, TextsTell}
use Rattle.law_read.specs.ReadScripts.Runs.{AreReadTo}

-- Law: in the run of a script that is read, of programs that are read, no vat makes 2 ^ 64 things, and fewer words are drawn.
abbrev pub ReadRunsAreBounded : Type 0
ReadRunsAreBounded = (bytes : List ℕ) (script : Script) → read bytes ≡ Ok script → (depth : ℕ) (tree : ℕ → List Node) → AreReadTo script tree → IsBounded (run (machine_script depth tree script))

-- Law: of two scripts that are read, of programs that are read, with the same vats, a text tells which run it is of.
abbrev pub TextsTellReadScripts : Type 0
TextsTellReadScripts = (bytes others : List ℕ) (script other : Script) → read bytes ≡ Ok script → read others ≡ Ok other → (depth deep : ℕ) (tree grown : ℕ → List Node) → AreReadTo script tree → AreReadTo other grown
    → vat_names (machine_script depth tree script) ≡ vat_names (machine_script deep grown other) → TextsTell (machine_script depth tree script) (machine_script deep grown other)
