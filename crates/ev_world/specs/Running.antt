-- The run of a script in numbers, as the code tells it.
use Rattle.std.specs.Prelude.{ℕ, Bool, true, false, List, map}
use Rattle.def_kernel.specs.declared.node.Node.{Node}
use Rattle.def_machine.specs.State.{Stop, Fuel, Deep, Repeated, Astray}
use Rattle.def_run.specs.World as machine
use Rattle.def_run.specs.Numbers.{Course, Runs, Halts, run}
use Rattle.def_run.specs.LocalText.{text, wire_text}
use Rattle.ev_reader.specs.declared.accepted.Scoped.{Scoped}
use Rattle.ev_script.specs.declared.script.Script.{Script}
use Rattle.ev_world.specs.declared.run.RunEnd.{RunEnd}
use Rattle.ev_world.specs.declared.run.RunEnd.TheVariants as end
use Rattle.law_schedule.specs.Scripts.{machine_script, tree_at}

-- the tree of the program at a place
abbrev pub tree_in : List Scoped → ℕ → List Node
tree_in programs place = tree_at (map (λ (p : Scoped). p.tree) programs) place

-- the machine's script of a script that is read, where these are the programs of its vats, in order, by the greatest depth
abbrev pub script_of : Script → List Scoped → ℕ → machine.Script
script_of script programs depth = machine_script depth (tree_in programs) script

abbrev pub told_text : Bool → machine.Script → List ℕ
told_text true script = wire_text script (run script)
told_text false script = text script (run script)

-- how a run ended of which a step of that number stopped
abbrev pub end_by : Stop → ℕ → RunEnd
end_by Fuel step = end.FuelSpent step
end_by Deep step = end.TooDeep step
end_by (Repeated i j) step = end.WordRepeated i j
end_by Astray step = end.Astray step

abbrev pub end_of : Course → RunEnd
end_of (Runs w) = end.Done
end_of (Halts c step w) = end_by c step
