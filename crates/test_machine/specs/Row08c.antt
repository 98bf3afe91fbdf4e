-- A recursion without end.
use Rattle.std.specs.Prelude.{◌≡◌, List, [], ◌∷◌, None, Ok, codes}
use Rattle.def_run.specs.World.{Script, run}
use Rattle.def_run.specs.Text.{text}
use Rattle.def_kernel.specs.Reading.{read}
use Rattle.test_machine.specs.Endings.{lines}
use Rattle.def_kernel.specs.declared.node.Node.{Node}
use Rattle.def_kernel.specs.declared.node.Node.TheVariants.{Noun, Call, Sequence, Escape, Object, Method, Final}
use Rattle.test_machine.specs.Keys.{zeros}

-- def f() { return f() }; f()
unfoldable pub tree_a : List Node
tree_a =
    Sequence (1 ∷ 12 ∷ [])
    ∷ Object 2 [] (3 ∷ [])
    ∷ Final (codes "f") None
    ∷ Method (codes "run") [] 4
    ∷ Escape 5 6 None
    ∷ Final (codes "__return") None
    ∷ Sequence (7 ∷ 11 ∷ [])
    ∷ Call 8 (codes "run") (9 ∷ [])
    ∷ Noun (codes "__return")
    ∷ Call 10 (codes "run") []
    ∷ Noun (codes "f")
    ∷ Noun (codes "null")
    ∷ Call 13 (codes "run") []
    ∷ Noun (codes "f")
    ∷ []

unfoldable pub script : Script
script = record {
  key = zeros;
  fuel = 1000000;
  depth = 400;
  vats =
      record { name = codes "a"; knows = []; tree = tree_a } ∷
      [];
  schedule = [];
}

abbrev pub Row08cHolds : Type 0
Row08cHolds = text script (run script) ≡ lines (
    codes "stop depth 0"
    ∷ [])

-- the trees are those of these forms
abbrev pub Row08cReads : Type 0
Row08cReads =
    (read (codes "(seq (object (final f) () (method run () (escape (final __return) (seq (call (noun __return) run (call (noun f) run)) (noun null))))) (call (noun f) run))") ≡ Ok tree_a)

-- opens the definitions of this file
unfoldable pub opened_row08c : Unit {0}
unfolding tree_a script
opened_row08c = tt
