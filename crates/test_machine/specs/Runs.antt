-- Small scripts, and the messages that are taken in their runs.
use Rattle.std.specs.Prelude.{ℕ, List, [], ◌∷◌, Result, Ok, Err}
use Rattle.def_machine.specs.Values.{Words, Name, Sent}
use Rattle.def_machine.specs.State.{Took}
use Rattle.def_run.specs.World.{Entry, Program, Script, Event, Here, run, opened_world}
use Rattle.def_run.specs.Text.{history_of}
use Rattle.def_kernel.specs.declared.node.Node.{Node}
use Rattle.def_kernel.specs.Reading.{read, opened_reading}

unfoldable pub tree_in : Result (List Node) ℕ → List Node
tree_in (Ok nodes) = nodes
tree_in (Err place) = []

-- a vat, with those that it knows and the form of its program
unfoldable pub vat : Words → List ℕ → Words → Program
vat name knows form = record { name = name; knows = knows; tree = tree_in (read form) }

unfoldable pub script_of : List Program → List Entry → Script
script_of vats schedule = record { key = []; fuel = 1000; depth = 100; vats = vats; schedule = schedule }

-- message n of vat v
unfoldable pub message : ℕ → ℕ → Name
message v n = Sent (record { sender = v; number = n })

-- the messages that these lines take
unfoldable pub takes_in : List Event → List Name
takes_in [] = []
takes_in (Here v (Took act m) ∷ es) = m.id ∷ takes_in es
takes_in (e ∷ es) = takes_in es

unfoldable pub taken : Script → List Name
taken script = takes_in (history_of (run script))

-- opens each definition of this file, and of those below
unfoldable pub opened_runs : Unit {0}
unfolding tree_in vat script_of message history_of takes_in taken opened_reading opened_world
opened_runs = tt
