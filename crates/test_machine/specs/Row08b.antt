-- Fuel that does not suffice.
use Rattle.std.specs.Prelude.{◌≡◌, pos, List, [], ◌∷◌, Ok, codes}
use Rattle.def_run.specs.World.{Script, run}
use Rattle.def_run.specs.Text.{text}
use Rattle.def_kernel.specs.Reading.{read}
use Rattle.test_machine.specs.Endings.{lines}
use Rattle.def_kernel.specs.declared.node.Literal.TheVariants as literal
use Rattle.def_kernel.specs.declared.node.Node.{Node}
use Rattle.def_kernel.specs.declared.node.Node.TheVariants.{Lit, Call}
use Rattle.test_machine.specs.Keys.{zeros}

-- 41 + 1
unfoldable pub tree_a : List Node
tree_a =
    Call 1 (codes "add") (2 ∷ [])
    ∷ Lit (literal.Int (pos 41))
    ∷ Lit (literal.Int (pos 1))
    ∷ []

unfoldable pub script : Script
script = record {
  key = zeros;
  fuel = 2;
  depth = 400;
  vats =
      record { name = codes "a"; knows = []; tree = tree_a } ∷
      [];
  schedule = [];
}

abbrev pub Row08bHolds : Type 0
Row08bHolds = text script (run script) ≡ lines (
    codes "stop fuel 0"
    ∷ [])

-- the trees are those of these forms
abbrev pub Row08bReads : Type 0
Row08bReads =
    (read (codes "(call (lit 41) add (lit 1))") ≡ Ok tree_a)

-- opens the definitions of this file
unfoldable pub opened_row08b : Unit {0}
unfolding tree_a script
opened_row08b = tt
