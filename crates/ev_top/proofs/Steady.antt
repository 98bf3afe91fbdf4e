-- The run of each script that is read, in numbers, is the machine's, and steady.
use Rattle.def_run.specs.World as machine
use Rattle.def_run.specs.Numbers as numbers
use Rattle.law_frame.specs.Local.Mirrors.{RunMirrors}
use Rattle.law_frame.proofs.Local.WholeRuns.{whole_runs_mirror}
use Rattle.def_run.specs.Steady.{RunsSteadily}
use Rattle.law_read.specs.ReadScripts.Accepted.{MeetsTheLaws}
use Rattle.law_frame.proofs.Steady.Anew.{lawful_steady}

pub runs_are_steady : (script : machine.Script) → MeetsTheLaws script → RunsSteadily script
runs_are_steady script lawful = lawful_steady script (lawful.0, lawful.2) lawful.1

pub runs_are_mirrored : (script : machine.Script) → MeetsTheLaws script → RunMirrors (machine.run script) (numbers.run script)
runs_are_mirrored script lawful = whole_runs_mirror script (lawful.0, lawful.2)
