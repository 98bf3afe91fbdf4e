-- An introduction, with its frames.
use Rattle.std.specs.Prelude.{◌≡◌, pos, List, [], ◌∷◌, None, Ok, codes}
use Rattle.def_run.specs.World.{Turn, Carry, Script, run}
use Rattle.def_run.specs.Text.{wire_text}
use Rattle.def_kernel.specs.Reading.{read}
use Rattle.test_machine.specs.Endings.{lines}
use Rattle.def_kernel.specs.declared.node.Literal.TheVariants as literal
use Rattle.def_kernel.specs.declared.node.Node.{Node}
use Rattle.def_kernel.specs.declared.node.Node.TheVariants.{Lit, Noun, Call, Sequence, Object, Method, Final}
use Rattle.test_machine.specs.Keys.{zeros}

-- c <- put(0); b <- meet(c)
unfoldable pub tree_a : List Node
tree_a =
    Sequence (1 ∷ 8 ∷ [])
    ∷ Call 2 (codes "send") (3 ∷ 4 ∷ 5 ∷ [])
    ∷ Noun (codes "E")
    ∷ Noun (codes "c")
    ∷ Lit (literal.Text (codes "put"))
    ∷ Call 6 (codes "run") (7 ∷ [])
    ∷ Noun (codes "__makeList")
    ∷ Lit (literal.Int (pos 0))
    ∷ Call 9 (codes "send") (10 ∷ 11 ∷ 12 ∷ [])
    ∷ Noun (codes "E")
    ∷ Noun (codes "b")
    ∷ Lit (literal.Text (codes "meet"))
    ∷ Call 13 (codes "run") (14 ∷ [])
    ∷ Noun (codes "__makeList")
    ∷ Noun (codes "c")
    ∷ []

-- def t { method meet(p) { p <- put(2) } }
unfoldable pub tree_b : List Node
tree_b =
    Object 1 [] (2 ∷ [])
    ∷ Final (codes "t") None
    ∷ Method (codes "meet") (3 ∷ []) 4
    ∷ Final (codes "p") None
    ∷ Call 5 (codes "send") (6 ∷ 7 ∷ 8 ∷ [])
    ∷ Noun (codes "E")
    ∷ Noun (codes "p")
    ∷ Lit (literal.Text (codes "put"))
    ∷ Call 9 (codes "run") (10 ∷ [])
    ∷ Noun (codes "__makeList")
    ∷ Lit (literal.Int (pos 2))
    ∷ []

-- def o { method put(x) { x } }
unfoldable pub tree_c : List Node
tree_c =
    Object 1 [] (2 ∷ [])
    ∷ Final (codes "o") None
    ∷ Method (codes "put") (3 ∷ []) 4
    ∷ Final (codes "x") None
    ∷ Noun (codes "x")
    ∷ []

unfoldable pub script : Script
script = record {
  key = zeros;
  fuel = 1000000;
  depth = 400;
  vats =
      record { name = codes "a"; knows = 1 ∷ 2 ∷ []; tree = tree_a } ∷
      record { name = codes "b"; knows = []; tree = tree_b } ∷
      record { name = codes "c"; knows = []; tree = tree_c } ∷
      [];
  schedule = Carry 0 1 ∷ Turn 1 ∷ Carry 1 2 ∷ Carry 1 2 ∷ Carry 0 2 ∷ Carry 0 2 ∷ Turn 2 ∷ Turn 2 ∷ [];
}

abbrev pub Row11WireHolds : Type 0
Row11WireHolds = wire_text script (run script) ≡ lines (
    codes "open a"
    ∷ codes "!0 list a%0 0"
    ∷ codes "!0 send a/0 @c put 0 -> c?a/0"
    ∷ codes "!0 list a%1 @c"
    ∷ codes "!0 send a/1 @b meet @c -> b?a/1"
    ∷ codes "!0 done b?a/1"
    ∷ codes "wait @a b?a/1"
    ∷ codes "open b"
    ∷ codes "!0 made b.0 t"
    ∷ codes "!0 done b.0"
    ∷ codes "settle @b b.0"
    ∷ codes "open c"
    ∷ codes "!0 made c.0 o"
    ∷ codes "!0 done c.0"
    ∷ codes "settle @c c.0"
    ∷ codes "1 carry a b deliver a/1 @b meet c^0"
    ∷ codes "frame 01000900046d656574010d0276b8e0ada0f13d90405d6ae55386bd28"
    ∷ codes "2 turn b"
    ∷ codes "!1 take a/1 b.0 meet c^0"
    ∷ codes "!1 list b%0 2"
    ∷ codes "!1 send b/0 c^0 put 2 -> c?b/0"
    ∷ codes "!1 done c?b/0"
    ∷ codes "wait b?a/1 c?b/0"
    ∷ codes "3 carry b c ask c^0 a"
    ∷ codes "frame 04000076b8e0ada0f13d90405d6ae55386bd28"
    ∷ codes "4 carry b c deliver b/0 c^0 put 2"
    ∷ codes "frame 01010a0003707574010302"
    ∷ codes "5 carry a c deliver a/0 @c put 0"
    ∷ codes "frame 0100090003707574010300"
    ∷ codes "6 carry a c open c^0 @c"
    ∷ codes "frame 03090076b8e0ada0f13d90405d6ae55386bd28"
    ∷ codes "settle c^0 c.0"
    ∷ codes "7 turn c"
    ∷ codes "!1 take a/0 c.0 put 0"
    ∷ codes "!1 done 0"
    ∷ codes "settle c?a/0 0"
    ∷ codes "8 turn c"
    ∷ codes "!2 take b/0 c.0 put 2"
    ∷ codes "!2 done 2"
    ∷ codes "settle c?b/0 2"
    ∷ codes "left link b a settled @b b.0"
    ∷ codes "left link c a settled @c c.0"
    ∷ codes "left link c a settled c?a/0 0"
    ∷ codes "left link c b settled c^0 c.0"
    ∷ codes "left link c b settled c?b/0 2"
    ∷ codes "end"
    ∷ [])

-- the trees are those of these forms
abbrev pub Row11WireReads : Type 0
Row11WireReads =
    (read (codes "(seq (call (noun E) send (noun c) (lit \"put\") (call (noun __makeList) run (lit 0))) (call (noun E) send (noun b) (lit \"meet\") (call (noun __makeList) run (noun c))))") ≡ Ok tree_a)
    × (read (codes "(object (final t) () (method meet ((final p)) (call (noun E) send (noun p) (lit \"put\") (call (noun __makeList) run (lit 2)))))") ≡ Ok tree_b)
    × (read (codes "(object (final o) () (method put ((final x)) (noun x)))") ≡ Ok tree_c)

-- opens the definitions of this file
unfoldable pub opened_row11wire : Unit {0}
unfolding tree_a tree_b tree_c script
opened_row11wire = tt
