-- A sum that is out of range.
use Rattle.std.specs.Prelude.{◌≡◌, pos, List, [], ◌∷◌, Ok, codes}
use Rattle.def_run.specs.World.{Script, run}
use Rattle.def_run.specs.Text.{text}
use Rattle.def_kernel.specs.Reading.{read}
use Rattle.test_machine.specs.Endings.{lines}
use Rattle.def_kernel.specs.declared.node.Literal.TheVariants as literal
use Rattle.def_kernel.specs.declared.node.Node.{Node}
use Rattle.def_kernel.specs.declared.node.Node.TheVariants.{Lit, Call}
use Rattle.test_machine.specs.Keys.{zeros}

-- 170141183460469231731687303715884105727 + 1
unfoldable pub tree_a : List Node
tree_a =
    Call 1 (codes "add") (2 ∷ [])
    ∷ Lit (literal.Int (pos 170141183460469231731687303715884105727))
    ∷ Lit (literal.Int (pos 1))
    ∷ []

unfoldable pub script : Script
script = record {
  key = zeros;
  fuel = 1000000;
  depth = 400;
  vats =
      record { name = codes "a"; knows = []; tree = tree_a } ∷
      [];
  schedule = [];
}

abbrev pub Row03Holds : Type 0
Row03Holds = text script (run script) ≡ lines (
    codes "open a"
    ∷ codes "!0 call 170141183460469231731687303715884105727 add 1"
    ∷ codes "!0 thrown \"integer overflow\""
    ∷ codes "!0 threw \"integer overflow\""
    ∷ codes "settle @a broken:\"integer overflow\""
    ∷ codes "end"
    ∷ [])

-- the trees are those of these forms
abbrev pub Row03Reads : Type 0
Row03Reads =
    (read (codes "(call (lit 170141183460469231731687303715884105727) add (lit 1))") ≡ Ok tree_a)

-- opens the definitions of this file
unfoldable pub opened_row03 : Unit {0}
unfolding tree_a script
opened_row03 = tt
