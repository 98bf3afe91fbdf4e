-- A guard that fails with an ejector.
use Rattle.std.specs.Prelude.{◌≡◌, List, [], ◌∷◌, Some, None, Ok, codes}
use Rattle.def_run.specs.World.{Script, run}
use Rattle.def_run.specs.Text.{text}
use Rattle.def_kernel.specs.Reading.{read}
use Rattle.test_machine.specs.Endings.{lines}
use Rattle.def_kernel.specs.declared.node.Literal.TheVariants as literal
use Rattle.def_kernel.specs.declared.node.Node.{Node}
use Rattle.def_kernel.specs.declared.node.Node.TheVariants.{Lit, Noun, Def, Escape, Final}
use Rattle.test_machine.specs.Keys.{zeros}

-- escape ej { def x :int exit ej := "a" }
unfoldable pub tree_a : List Node
tree_a =
    Escape 1 2 None
    ∷ Final (codes "ej") None
    ∷ Def 3 (Some 5) 6
    ∷ Final (codes "x") (Some 4)
    ∷ Noun (codes "int")
    ∷ Noun (codes "ej")
    ∷ Lit (literal.Text (codes "a"))
    ∷ []

unfoldable pub script : Script
script = record {
  key = zeros;
  fuel = 1000000;
  depth = 400;
  vats =
      record { name = codes "a"; knows = []; tree = tree_a } ∷
      [];
  schedule = [];
}

abbrev pub Row06bHolds : Type 0
Row06bHolds = text script (run script) ≡ lines (
    codes "open a"
    ∷ codes "!0 ejector a.0"
    ∷ codes "!0 call a.0 run \"not int\""
    ∷ codes "!0 gone"
    ∷ codes "!0 got \"not int\""
    ∷ codes "!0 done \"not int\""
    ∷ codes "settle @a \"not int\""
    ∷ codes "end"
    ∷ [])

-- the trees are those of these forms
abbrev pub Row06bReads : Type 0
Row06bReads =
    (read (codes "(escape (final ej) (def (final x (noun int)) exit (noun ej) (lit \"a\")))") ≡ Ok tree_a)

-- opens the definitions of this file
unfoldable pub opened_row06b : Unit {0}
unfolding tree_a script
opened_row06b = tt
