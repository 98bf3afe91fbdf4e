-- How the opening turn of a vat that is alone ends.
use Rattle.std.specs.Prelude.{ℕ, List, [], ◌∷◌, ◌++◌, map, codes}
use Rattle.def_event.specs.Lines.{line_of}
use Rattle.def_machine.specs.Values.{Words}
use Rattle.def_kernel.specs.declared.node.Node.{Node}
use Rattle.def_run.specs.World.{Script, Run, Goes, Stopped, run}
use Rattle.def_run.specs.Text.{vat_names, shown_events, stop_line}
use Rattle.test_machine.specs.Keys.{zeros}
use Rattle.def_run.specs.Text.{opened_text}

-- lines, each with its end
unfoldable pub lines : List Words → Words
lines [] = []
lines (l ∷ ls) = l ++ 10 ∷ lines ls

-- a script of one vat, with so much fuel and depth
unfoldable pub alone : ℕ → ℕ → List Node → Script
alone fuel depth tree = record { key = zeros; fuel = fuel; depth = depth; vats = record { name = codes "a"; knows = []; tree = tree } ∷ []; schedule = [] }

-- the last line but the line `end`, or the line of a stop
unfoldable pub last_line : List Words → Words
last_line [] = []
last_line (l ∷ []) = l
last_line (l ∷ m ∷ []) = l
last_line (l ∷ m ∷ n ∷ ls) = last_line (m ∷ n ∷ ls)

unfoldable pub ending_in : Script → Run → Words
ending_in script (Goes w) = last_line (map (line_of (vat_names script)) (shown_events w.drawn w.history))
ending_in script (Stopped c k w) = stop_line c k

unfoldable pub ending_at : ℕ → ℕ → List Node → Words
ending_at fuel depth tree = ending_in (alone fuel depth tree) (run (alone fuel depth tree))

unfoldable pub ending_of : List Node → Words
ending_of tree = ending_at 1000000 400 tree

-- opens each definition of this file, and of those below
unfoldable pub opened_endings : Unit {0}
unfolding lines alone last_line ending_in ending_at ending_of opened_text
opened_endings = tt
