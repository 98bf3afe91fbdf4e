-- What the laws of runs ask of a script.
use Rattle.std.specs.Prelude.{◌≡◌, ℕ, List, Ok}
use Rattle.def_kernel.specs.declared.node.Node.{Node}
use Rattle.def_run.specs.World as world
use Rattle.def_run.specs.Text.{vat_names}
use Rattle.law_schedule.specs.Scripts.{machine_script}
use Rattle.ev_script.specs.Script.{read}
use Rattle.ev_script.specs.declared.script.Script.{Script}
use Rattle.law_fate.specs.Name.Runs.{KnowsOnce}
use Rattle.law_reference.specs.Reference.Cuts.{NoticesFollowCuts}
use Rattle.law_fate.specs.Fates.WholeFateRuns.{KnowsVats}
use Rattle.law_text.specs.Text.Values.{AreVats}

-- what they ask
abbrev pub MeetsTheLaws : world.Script → Type 0
MeetsTheLaws script = KnowsOnce script × KnowsVats script × NoticesFollowCuts script.schedule

-- Law: each script that is read has it, whatever the trees of its programs.
abbrev pub AcceptedScriptsMeetTheLaws : Type 0
AcceptedScriptsMeetTheLaws = (bytes : List ℕ) (script : Script) → read bytes ≡ Ok script → (depth : ℕ) (tree : ℕ → List Node) → MeetsTheLaws (machine_script depth tree script)

-- And its vats have such names that a text of its run tells which vat is meant.
abbrev pub AcceptedVatsAreNamed : Type 0
AcceptedVatsAreNamed = (bytes : List ℕ) (script : Script) → read bytes ≡ Ok script → (depth : ℕ) (tree : ℕ → List Node) → AreVats (vat_names (machine_script depth tree script))
