-- A message without an answer, with its frame.
use Rattle.std.specs.Prelude.{◌≡◌, pos, List, [], ◌∷◌, None, Ok, codes}
use Rattle.def_run.specs.World.{Turn, Carry, Script, run}
use Rattle.def_run.specs.Text.{wire_text}
use Rattle.def_kernel.specs.Reading.{read}
use Rattle.test_machine.specs.Endings.{lines}
use Rattle.def_kernel.specs.declared.node.Literal.TheVariants as literal
use Rattle.def_kernel.specs.declared.node.Node.{Node}
use Rattle.def_kernel.specs.declared.node.Node.TheVariants.{Lit, Noun, Call, Object, Method, Final}
use Rattle.test_machine.specs.Keys.{zeros}

-- E.sendOnly(b, "put", [5])
unfoldable pub tree_a : List Node
tree_a =
    Call 1 (codes "sendOnly") (2 ∷ 3 ∷ 4 ∷ [])
    ∷ Noun (codes "E")
    ∷ Noun (codes "b")
    ∷ Lit (literal.Text (codes "put"))
    ∷ Call 5 (codes "run") (6 ∷ [])
    ∷ Noun (codes "__makeList")
    ∷ Lit (literal.Int (pos 5))
    ∷ []

-- def t { method put(x) { x } }
unfoldable pub tree_b : List Node
tree_b =
    Object 1 [] (2 ∷ [])
    ∷ Final (codes "t") None
    ∷ Method (codes "put") (3 ∷ []) 4
    ∷ Final (codes "x") None
    ∷ Noun (codes "x")
    ∷ []

unfoldable pub script : Script
script = record {
  key = zeros;
  fuel = 1000000;
  depth = 20000;
  vats =
      record { name = codes "a"; knows = 1 ∷ []; tree = tree_a } ∷
      record { name = codes "b"; knows = []; tree = tree_b } ∷
      [];
  schedule = Carry 0 1 ∷ Turn 1 ∷ [];
}

abbrev pub SendOnlyHolds : Type 0
SendOnlyHolds = wire_text script (run script) ≡ lines (
    codes "open a"
    ∷ codes "!0 list a%0 5"
    ∷ codes "!0 sendonly a/0 @b put 5"
    ∷ codes "!0 done null"
    ∷ codes "settle @a null"
    ∷ codes "open b"
    ∷ codes "!0 made b.0 t"
    ∷ codes "!0 done b.0"
    ∷ codes "settle @b b.0"
    ∷ codes "1 carry a b deliveronly a/0 @b put 5"
    ∷ codes "frame 06090003707574010305"
    ∷ codes "2 turn b"
    ∷ codes "!1 take a/0 b.0 put 5"
    ∷ codes "!1 done 5"
    ∷ codes "left link b a settled @b b.0"
    ∷ codes "end"
    ∷ [])

-- the trees are those of these forms
abbrev pub SendOnlyReads : Type 0
SendOnlyReads =
    (read (codes "(call (noun E) sendOnly (noun b) (lit \"put\") (call (noun __makeList) run (lit 5)))") ≡ Ok tree_a)
    × (read (codes "(object (final t) () (method put ((final x)) (noun x)))") ≡ Ok tree_b)

-- opens the definitions of this file
unfoldable pub opened_sendonly : Unit {0}
unfolding tree_a tree_b script
opened_sendonly = tt
