-- The texts of the runs of scripts that are read.
use Rattle.std.specs.Prelude.{◌≡◌, ◌<◌, ◌≤◌, ◌^◌, ℕ, List, Ok, length}
use Rattle.def_kernel.specs.declared.node.Node.{Node}
use Rattle.def_run.specs.World.{run}
use Rattle.def_run.specs.Text.{vat_names}
use Rattle.def_kernel.specs.Trees.{IsTree}
use Rattle.law_schedule.specs.Scripts.{machine_script}
use Rattle.law_text.specs.Text.Feeds.{AllOf}
use Rattle.law_text.specs.RunTexts.Laws.{IsShort, IsBounded, TextsTell}
use Rattle.ev_script.specs.Script.{read}
use Rattle.ev_script.specs.declared.script.Script.{Script}

-- the program of each of its vats is a kernel tree of texts shorter than 2 ^ 64
abbrev pub HasTrees : Script → (ℕ → List Node) → Type 0
HasTrees script tree = (place : ℕ) → place < length script.vats → IsTree (tree place) × AllOf IsShort (tree place)

-- Of two scripts that are read and have the same vats a text tells which run it is of.
abbrev pub TextsTellRunsOfAcceptedScripts : Type 0
TextsTellRunsOfAcceptedScripts = (bytes others : List ℕ) (script other : Script) → read bytes ≡ Ok script → read others ≡ Ok other → (depth deep : ℕ) (tree grown : ℕ → List Node) → HasTrees script tree → HasTrees other grown
    → vat_names (machine_script depth tree script) ≡ vat_names (machine_script deep grown other) → IsBounded (run (machine_script depth tree script)) → IsBounded (run (machine_script deep grown other))
    → TextsTell (machine_script depth tree script) (machine_script deep grown other)

-- and it has no more than 2 ^ 32 nodes
abbrev pub HasFewNodes : Script → (ℕ → List Node) → Type 0
HasFewNodes script tree = (place : ℕ) → place < length script.vats → length (tree place) ≤ 2 ^ 32

-- In the run of a script that is read no vat makes 2 ^ 64 things, and fewer words are drawn.
abbrev pub AcceptedRunsAreBounded : Type 0
AcceptedRunsAreBounded = (bytes : List ℕ) (script : Script) → read bytes ≡ Ok script → (depth : ℕ) (tree : ℕ → List Node) → HasTrees script tree → HasFewNodes script tree → IsBounded (run (machine_script depth tree script))

-- So a text tells which run it is of, with nothing asked of the runs.
abbrev pub TextsTellAcceptedScripts : Type 0
TextsTellAcceptedScripts = (bytes others : List ℕ) (script other : Script) → read bytes ≡ Ok script → read others ≡ Ok other → (depth deep : ℕ) (tree grown : ℕ → List Node) → HasTrees script tree → HasTrees other grown → HasFewNodes script tree → HasFewNodes other grown
    → vat_names (machine_script depth tree script) ≡ vat_names (machine_script deep grown other) → TextsTell (machine_script depth tree script) (machine_script deep grown other)
