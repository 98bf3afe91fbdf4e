-- A guard that fails.
use Rattle.std.specs.Prelude.{◌≡◌, List, [], ◌∷◌, Some, None, Ok, codes}
use Rattle.def_run.specs.World.{Script, run}
use Rattle.def_run.specs.Text.{text}
use Rattle.def_kernel.specs.Reading.{read}
use Rattle.test_machine.specs.Endings.{lines}
use Rattle.def_kernel.specs.declared.node.Literal.TheVariants as literal
use Rattle.def_kernel.specs.declared.node.Node.{Node}
use Rattle.def_kernel.specs.declared.node.Node.TheVariants.{Lit, Noun, Def, Final}
use Rattle.test_machine.specs.Keys.{zeros}

-- def x :int := "a"
unfoldable pub tree_a : List Node
tree_a =
    Def 1 None 3
    ∷ Final (codes "x") (Some 2)
    ∷ Noun (codes "int")
    ∷ Lit (literal.Text (codes "a"))
    ∷ []

unfoldable pub script : Script
script = record {
  key = zeros;
  fuel = 1000000;
  depth = 400;
  vats =
      record { name = codes "a"; knows = []; tree = tree_a } ∷
      [];
  schedule = [];
}

abbrev pub Row06aHolds : Type 0
Row06aHolds = text script (run script) ≡ lines (
    codes "open a"
    ∷ codes "!0 threw \"not int\""
    ∷ codes "settle @a broken:\"not int\""
    ∷ codes "end"
    ∷ [])

-- the trees are those of these forms
abbrev pub Row06aReads : Type 0
Row06aReads =
    (read (codes "(def (final x (noun int)) (lit \"a\"))") ≡ Ok tree_a)

-- opens the definitions of this file
unfoldable pub opened_row06a : Unit {0}
unfolding tree_a script
opened_row06a = tt
