-- A text and a character add to the text with the character behind it.
use Rattle.std.specs.Prelude.{◌≡◌, pos, List, [], ◌∷◌, None, Ok, codes}
use Rattle.def_run.specs.World.{Script, run}
use Rattle.def_run.specs.Text.{text}
use Rattle.def_kernel.specs.Reading.{read}
use Rattle.test_machine.specs.Endings.{lines}
use Rattle.def_kernel.specs.declared.node.Literal.TheVariants as literal
use Rattle.def_kernel.specs.declared.node.Node.{Node}
use Rattle.def_kernel.specs.declared.node.Node.TheVariants.{Lit, Call}
use Rattle.test_machine.specs.Keys.{zeros}

-- ("a" + '\n').size()
unfoldable pub tree_a : List Node
tree_a =
    Call 1 (codes "size") []
    ∷ Call 2 (codes "add") (3 ∷ [])
    ∷ Lit (literal.Text (codes "a"))
    ∷ Lit (literal.Char 10)
    ∷ []

unfoldable pub script : Script
script = record {
  key = zeros;
  fuel = 1000000;
  depth = 20000;
  vats =
      record { name = codes "a"; knows = []; tree = tree_a } ∷
      [];
  schedule = [];
}

abbrev pub TextAndCharacterHolds : Type 0
TextAndCharacterHolds = text script (run script) ≡ lines (
    codes "open a"
    ∷ codes "!0 call \"a\" add '\\n'"
    ∷ codes "!0 back \"a\\n\""
    ∷ codes "!0 call \"a\\n\" size"
    ∷ codes "!0 back 2"
    ∷ codes "!0 done 2"
    ∷ codes "settle @a 2"
    ∷ codes "end"
    ∷ [])

-- the trees are those of these forms
abbrev pub TextAndCharacterReads : Type 0
TextAndCharacterReads =
    (read (codes "(call (call (lit \"a\") add (lit '\\n')) size)") ≡ Ok tree_a)

-- opens the definitions of this file
unfoldable pub opened_textandcharacter : Unit {0}
unfolding tree_a script
opened_textandcharacter = tt
