-- Worlds of runs whose notices stand behind their cuts.
use Rattle.std.specs.Prelude.{◌≡◌, ℕ, zero, List, ◌++◌, ◌⊎◌}
use Rattle.def_run.specs.World.{Script, Program, Entry, World, Goes, begins, open_from, steps_from}
use Rattle.law_reference.specs.Reference.Cuts.{NoticesFollowCuts}

-- after all opening turns and these entries
abbrev pub IsEntered : Script → World → Type 0
IsEntered script x = (w : World) × (es : List Entry) × (k : ℕ) × NoticesFollowCuts es × (open_from script zero script.vats (begins script) ≡ Goes w) × (steps_from script es k w ≡ Goes x)

-- or after some of the opening turns
abbrev pub IsRun : Script → World → Type 0
IsRun script x = ((ps rest : List Program) × (script.vats ≡ ps ++ rest) × (open_from script zero ps (begins script) ≡ Goes x)) ⊎ IsEntered script x
