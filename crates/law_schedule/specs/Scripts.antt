-- A script that is read, as the machine's script.
use Rattle.std.specs.Prelude.{ℕ, zero, suc, List, [], ◌∷◌, get_or, map}
use Rattle.def_kernel.specs.declared.node.Node.{Node}
use Rattle.def_run.specs.World as world
use Rattle.ev_script.specs.declared.script.Entry.{Entry}
use Rattle.ev_script.specs.declared.script.Entry.TheVariants.{Turn, Carry, Cut, Notice}
use Rattle.ev_script.specs.declared.script.Script.{Script}
use Rattle.ev_script.specs.declared.script.VatScript.{VatScript}

abbrev pub machine_entry : Entry → world.Entry
machine_entry (Turn v) = world.Turn v
machine_entry (Carry v w) = world.Carry v w
machine_entry (Cut v w) = world.CutLink v w
machine_entry (Notice v w) = world.NoticeLink v w

-- the vats from a place on, each with the tree of its program
abbrev pub machine_vats : (ℕ → List Node) → ℕ → List VatScript → List world.Program
machine_vats tree place [] = []
machine_vats tree place (vat ∷ vats) = record { name = vat.name; knows = vat.knows; tree = tree place } ∷ machine_vats tree (suc place) vats

-- the tree at a place
abbrev pub tree_at : List (List Node) → ℕ → List Node
tree_at trees place = get_or trees place []

-- the machine's script, by the greatest depth and the tree of each vat's program
abbrev pub machine_script : ℕ → (ℕ → List Node) → Script → world.Script
machine_script depth tree script = record {
  key = script.key;
  fuel = script.fuel;
  depth = depth;
  vats = machine_vats tree zero script.vats;
  schedule = map machine_entry script.schedule;
}
