-- That no run of a script that is read, of programs that are checked, goes astray.
use Rattle.std.specs.Prelude.{◌≡◌, ◌⊎◌, ℕ, List, Some, None, Ok, slice_get}
use Rattle.def_kernel.specs.declared.node.Node.{Node}
use Rattle.def_machine.specs.Values.{Words, Value, Name}
use Rattle.def_machine.specs.Native.{safe_value}
use Rattle.def_machine.specs.State.{Stop, Astray}
use Rattle.def_run.specs.World.{World, Stopped, run}
use Rattle.def_kernel.specs.Trees.{IsTree}
use Rattle.ev_reader.specs.Scopes.{first_fault}
use Rattle.ev_script.specs.Script.{read}
use Rattle.ev_script.specs.declared.script.Script.{Script}
use Rattle.ev_script.specs.declared.script.VatScript.{VatScript}
use Rattle.law_fate.specs.Name.Names.{IsAmong}
use Rattle.law_schedule.specs.Scripts.{machine_script}
use Rattle.law_never_astray.specs.Formed.{AllOf}

-- a name of the safe scope, or that of a vat that this one knows
abbrev pub IsGiven : List VatScript → VatScript → Words → Type 0
IsGiven vats vat x = ((value : Value Name) × (safe_value x ≡ Some value)) ⊎ ((w : ℕ) × (other : VatScript) × IsAmong w vat.knows × (slice_get vats w ≡ Some other) × (other.name ≡ x))

-- a tree in which the check finds no fault inside such names
abbrev pub IsChecked : List VatScript → VatScript → List Node → Type 0
IsChecked vats vat tree = IsTree tree × ((names : List Words) × AllOf (IsGiven vats vat) names × (first_fault tree names ≡ None))

-- so is the program of each vat
abbrev pub AreChecked : Script → (ℕ → List Node) → Type 0
AreChecked script tree = (v : ℕ) (vat : VatScript) → slice_get script.vats v ≡ Some vat → IsChecked script.vats vat (tree v)

-- Law: the run of a script that is read may stop, but not as astray, where its programs are so.
abbrev pub NoCheckedScriptGoesAstray : Type 0
NoCheckedScriptGoesAstray = (bytes : List ℕ) (script : Script) → read bytes ≡ Ok script → (depth : ℕ) (tree : ℕ → List Node) → AreChecked script tree
    → (c : Stop) (n : ℕ) (y : World) → run (machine_script depth tree script) ≡ Stopped c n y → c ≡ Astray → ⊥
