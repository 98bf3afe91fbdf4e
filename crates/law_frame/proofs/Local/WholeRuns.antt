-- Carries mirror the machine's, so each step does, and so do whole runs.
use Rattle.std.proofs.Common.{◌+◌, [], ◌∷◌, length, subst}
use Rattle.def_run.specs.World as machine
use Rattle.def_run.specs.World.{Script, Carry}
use Rattle.law_reference.specs.Reference.Cuts.{NoticesFollowCuts}
use Rattle.law_reference.proofs.Reference.AskHolds.{notices_front}
use Rattle.def_run.specs.Numbers as numbers
use Rattle.law_frame.specs.Local.Joined.{IsLawful, CarriesMirrorIn}
use Rattle.law_frame.specs.Local.Runs.{EachStepMirrors}
use Rattle.law_frame.specs.Local.Whole.{WholeRunsMirror, WholeTextsMirror}
use Rattle.law_frame.proofs.Local.Texts.{texts_mirror}
use Rattle.law_frame.proofs.Local.Carries.{carries_mirror}
use Rattle.law_frame.proofs.Local.JoinedRuns.{others_so}
use Rattle.law_frame.proofs.Local.Runs.{runs_mirror}

carries_so : (script : Script) → IsLawful script → CarriesMirrorIn script
carries_so script lawful = record {
  carries = λ v u w x X es rest split opened stepped h. carries_mirror script lawful.0 w x es 1 (notices_front script [] es (Carry v u ∷ rest) (subst NoticesFollowCuts split lawful.1)) opened stepped X h v u (1 + length es);
}

pub each_step_mirrors : (script : Script) → IsLawful script → EachStepMirrors script
each_step_mirrors script lawful = others_so script lawful (carries_so script lawful)

pub whole_runs_mirror : WholeRunsMirror
whole_runs_mirror script lawful = runs_mirror script (each_step_mirrors script lawful)

pub whole_texts_mirror : WholeTextsMirror
whole_texts_mirror script lawful = texts_mirror script (machine.run script) (numbers.run script) (whole_runs_mirror script lawful)
