-- Whole runs, where each step mirrors the machine's.
use Rattle.std.specs.Prelude.{◌≡◌, zero, ◌+◌, List, ◌∷◌, ◌++◌, length, slice_get}
use Rattle.def_run.specs.World as machine
use Rattle.def_run.specs.World.{Script, Program, Entry, World, Goes}
use Rattle.def_run.specs.Numbers as numbers
use Rattle.def_run.specs.Numbers.{Vats}
use Rattle.law_frame.specs.Local.Mirrors.{Mirrors, RunMirrors}

-- In the run of that script each opening turn, and each entry of the schedule, leads where the machine's does, from all that stands for what it finds.
pub record EachStepMirrors (script : Script) : Type 0 where
  pub openings : (ps rest : List Program) (p : Program) (x : World) (X : Vats) → script.vats ≡ ps ++ p ∷ rest → machine.open_from script zero ps (machine.begins script) ≡ Goes x → Mirrors x X
      → RunMirrors (machine.open_vat script (length ps) p x) (numbers.open_member script (length ps) p X (slice_get X.members (length ps)))
  pub entries : (w x : World) (X : Vats) (es rest : List Entry) (e : Entry) → script.schedule ≡ es ++ e ∷ rest → machine.open_from script zero script.vats (machine.begins script) ≡ Goes w → machine.steps_from script es 1 w ≡ Goes x → Mirrors x X
      → RunMirrors (machine.step script e (1 + length es) x) (numbers.step script e (1 + length es) X)

-- Then so does the whole run.
abbrev pub RunsMirror : Type 0
RunsMirror = (script : Script) → EachStepMirrors script → RunMirrors (machine.run script) (numbers.run script)
