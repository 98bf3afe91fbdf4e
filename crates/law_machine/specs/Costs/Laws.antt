-- What a run makes and draws, by its fuel.
use Rattle.std.specs.Prelude.{◌≡◌, ℕ, ◌+◌, ◌*◌, ◌≤◌, ◌<◌, ◌^◌, Some, length, slice_get}
use Rattle.std.specs.List.{AllByRecursion}
use Rattle.def_machine.specs.Values.{Name}
use Rattle.def_machine.specs.State.{Vat}
use Rattle.def_run.specs.World.{Script, Program, World, Run, Goes, Stopped, run}
use Rattle.def_kernel.specs.Trees.{IsTree}
use Rattle.law_machine.specs.Costs.Sizes.{made}

-- What a step makes at most beside what its fuel pays for, where there is so much fuel, and trees have so many nodes.
abbrev pub step_price : ℕ → ℕ → ℕ
step_price fuel nodes = fuel + fuel + (nodes + nodes) + 30

-- what a unit of fuel pays for
abbrev pub unit_price : ℕ → ℕ → ℕ
unit_price fuel nodes = step_price fuel nodes + step_price fuel nodes + (nodes + nodes) + 60

-- the world to which a run came
abbrev pub comes_to : Run → World
comes_to (Goes w) = w
comes_to (Stopped c k w) = w

-- each program is a kernel tree of so many nodes at most
abbrev pub AreTrees : ℕ → Script → Type 0
AreTrees nodes script = AllByRecursion (λ (p : Program). IsTree p.tree × (length p.tree ≤ nodes)) script.vats

-- What a vat of a run made, and what the run drew, is no more than its fuel and its steps pay for: opening turns and entries.
abbrev pub FuelPays : Type 0
FuelPays = (nodes : ℕ) (script : Script) → AreTrees nodes script → (v : ℕ) (s : Vat Name) → slice_get (comes_to (run script)).vats v ≡ Some s
    → made s + length (comes_to (run script)).drawn ≤ unit_price script.fuel nodes * script.fuel + step_price script.fuel nodes * length script.vats + step_price script.fuel nodes * length script.schedule

-- No script of fuel, trees and entries like these makes a vat make 2 ^ 64 things, or draws as many words.
abbrev pub IsModest : Script → Type 0
IsModest script = (script.fuel ≤ 10000000) × (length script.vats ≤ 65536) × (length script.schedule ≤ 100000) × AreTrees (2 ^ 32) script

abbrev pub NumbersAreLow : Type 0
NumbersAreLow = (script : Script) → IsModest script → ((v : ℕ) (s : Vat Name) → slice_get (comes_to (run script)).vats v ≡ Some s → made s < 2 ^ 64) × (length (comes_to (run script)).drawn < 2 ^ 64)
