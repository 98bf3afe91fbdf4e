-- What the laws of runs ask of a script.
use Rattle.std.specs.Prelude.{ℕ, List}
use Rattle.def_kernel.specs.declared.node.Node.{Node}
use Rattle.def_run.specs.World as world
use Rattle.ev_script.specs.Rules.{IsAdmitted}
use Rattle.ev_script.specs.declared.script.Script.{Script}
use Rattle.law_fate.specs.Fates.WholeFateRuns.{KnowsVats}
use Rattle.law_fate.specs.Name.Runs.{KnowsOnce}
use Rattle.law_reference.specs.Reference.Cuts.{NoticesFollowCuts}
use Rattle.law_schedule.specs.Scripts.{machine_script}

-- No vat is told that it knows itself, or twice that it knows another, each knows vats of the script alone, and each notice stands behind a cut of its two vats.
abbrev pub MeetsTheLaws : world.Script → Type 0
MeetsTheLaws script = KnowsOnce script × KnowsVats script × NoticesFollowCuts script.schedule

-- Law: each script that is as the rules say has it, whatever the trees of its programs.
abbrev pub AdmittedScriptsMeetTheLaws : Type 0
AdmittedScriptsMeetTheLaws = (script : Script) → IsAdmitted script → (depth : ℕ) (tree : ℕ → List Node) → MeetsTheLaws (machine_script depth tree script)
