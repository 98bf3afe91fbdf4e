-- That no run of a script goes astray whose programs are read.
use Rattle.std.specs.Prelude.{◌≡◌, ℕ, List, Some, Ok, slice_get}
use Rattle.def_kernel.specs.declared.node.Node.{Node}
use Rattle.def_machine.specs.Values.{Words}
use Rattle.def_machine.specs.State.{Stop, Astray}
use Rattle.def_run.specs.World.{World, Stopped, run}
use Rattle.ev_reader.specs.declared.accepted.Scoped.{Scoped}
use Rattle.ev_reader.specs.Program.{Answers}
use Rattle.ev_script.specs.Script.{read}
use Rattle.ev_script.specs.declared.script.Script.{Script}
use Rattle.ev_script.specs.declared.script.VatScript.{VatScript}
use Rattle.law_never_astray.specs.Formed.{AllOf}
use Rattle.law_schedule.specs.Scripts.{machine_script}
use Rattle.law_read.specs.ReadScripts.Checked.{IsGiven}

-- the program of a vat is read to this tree, under names of the safe scope and of vats that it knows
abbrev pub IsReadTo : List VatScript → VatScript → List Node → Type 0
IsReadTo vats vat tree = (scoped : Scoped) × (names : List Words) × AllOf (IsGiven vats vat) names × Answers (Ok scoped) vat.source names × (scoped.tree ≡ tree)

-- so is that of each vat
abbrev pub AreReadTo : Script → (ℕ → List Node) → Type 0
AreReadTo script tree = (v : ℕ) (vat : VatScript) → slice_get script.vats v ≡ Some vat → IsReadTo script.vats vat (tree v)

-- Law: the run of a script that is read, of programs that are read, may stop, but not as astray.
abbrev pub NoReadScriptGoesAstray : Type 0
NoReadScriptGoesAstray = (bytes : List ℕ) (script : Script) → read bytes ≡ Ok script → (depth : ℕ) (tree : ℕ → List Node) → AreReadTo script tree
    → (c : Stop) (n : ℕ) (y : World) → run (machine_script depth tree script) ≡ Stopped c n y → c ≡ Astray → ⊥
