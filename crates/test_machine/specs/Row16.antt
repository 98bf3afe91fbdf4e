-- Two gifts that are one object.
use Rattle.std.specs.Prelude.{◌≡◌, List, [], ◌∷◌, None, Ok, codes}
use Rattle.def_run.specs.World.{Turn, Carry, Script, run}
use Rattle.def_run.specs.Text.{text}
use Rattle.def_kernel.specs.Reading.{read}
use Rattle.test_machine.specs.Endings.{lines}
use Rattle.def_kernel.specs.declared.node.Literal.TheVariants as literal
use Rattle.def_kernel.specs.declared.node.Node.{Node}
use Rattle.def_kernel.specs.declared.node.Node.TheVariants.{Lit, Noun, Call, Sequence, Object, Method, Final}
use Rattle.test_machine.specs.Keys.{zeros}

-- b <- two(c, c)
unfoldable pub tree_a : List Node
tree_a =
    Call 1 (codes "send") (2 ∷ 3 ∷ 4 ∷ [])
    ∷ Noun (codes "E")
    ∷ Noun (codes "b")
    ∷ Lit (literal.Text (codes "two"))
    ∷ Call 5 (codes "run") (6 ∷ 7 ∷ [])
    ∷ Noun (codes "__makeList")
    ∷ Noun (codes "c")
    ∷ Noun (codes "c")
    ∷ []

-- def t { method two(x, y) { def again { method run() { x == y } }; again <- run(); x == y } }
unfoldable pub tree_b : List Node
tree_b =
    Object 1 [] (2 ∷ [])
    ∷ Final (codes "t") None
    ∷ Method (codes "two") (3 ∷ 4 ∷ []) 5
    ∷ Final (codes "x") None
    ∷ Final (codes "y") None
    ∷ Sequence (6 ∷ 13 ∷ 19 ∷ [])
    ∷ Object 7 [] (8 ∷ [])
    ∷ Final (codes "again") None
    ∷ Method (codes "run") [] 9
    ∷ Call 10 (codes "sameEver") (11 ∷ 12 ∷ [])
    ∷ Noun (codes "__equalizer")
    ∷ Noun (codes "x")
    ∷ Noun (codes "y")
    ∷ Call 14 (codes "send") (15 ∷ 16 ∷ 17 ∷ [])
    ∷ Noun (codes "E")
    ∷ Noun (codes "again")
    ∷ Lit (literal.Text (codes "run"))
    ∷ Call 18 (codes "run") []
    ∷ Noun (codes "__makeList")
    ∷ Call 20 (codes "sameEver") (21 ∷ 22 ∷ [])
    ∷ Noun (codes "__equalizer")
    ∷ Noun (codes "x")
    ∷ Noun (codes "y")
    ∷ []

-- def o {}
unfoldable pub tree_c : List Node
tree_c =
    Object 1 [] []
    ∷ Final (codes "o") None
    ∷ []

unfoldable pub script : Script
script = record {
  key = zeros;
  fuel = 1000000;
  depth = 400;
  vats =
      record { name = codes "a"; knows = 1 ∷ 2 ∷ []; tree = tree_a } ∷
      record { name = codes "b"; knows = []; tree = tree_b } ∷
      record { name = codes "c"; knows = []; tree = tree_c } ∷
      [];
  schedule = Carry 0 1 ∷ Turn 1 ∷ Carry 0 2 ∷ Carry 0 2 ∷ Carry 1 2 ∷ Carry 1 2 ∷ Carry 2 1 ∷ Carry 2 1 ∷ Turn 1 ∷ [];
}

abbrev pub Row16Holds : Type 0
Row16Holds = text script (run script) ≡ lines (
    codes "open a"
    ∷ codes "!0 list a%0 @c @c"
    ∷ codes "!0 send a/0 @b two @c @c -> b?a/0"
    ∷ codes "!0 done b?a/0"
    ∷ codes "wait @a b?a/0"
    ∷ codes "open b"
    ∷ codes "!0 made b.0 t"
    ∷ codes "!0 done b.0"
    ∷ codes "settle @b b.0"
    ∷ codes "open c"
    ∷ codes "!0 made c.0 o"
    ∷ codes "!0 done c.0"
    ∷ codes "settle @c c.0"
    ∷ codes "1 carry a b deliver a/0 @b two c^0 c^1"
    ∷ codes "2 turn b"
    ∷ codes "!1 take a/0 b.0 two c^0 c^1"
    ∷ codes "!1 made b.1 again caps c^0 c^1"
    ∷ codes "!1 list b%0"
    ∷ codes "!1 send b/0 b.1 run -> b?b/0"
    ∷ codes "!1 threw \"not settled\""
    ∷ codes "settle b?a/0 broken:\"not settled\""
    ∷ codes "3 carry a c open c^0 @c"
    ∷ codes "settle c^0 c.0"
    ∷ codes "4 carry a c open c^1 @c"
    ∷ codes "settle c^1 c.0"
    ∷ codes "5 carry b c ask c^0 a"
    ∷ codes "6 carry b c ask c^1 a"
    ∷ codes "7 carry c b settled c^0 c.0"
    ∷ codes "settle c^0 c.0"
    ∷ codes "8 carry c b settled c^1 c.0"
    ∷ codes "settle c^1 c.0"
    ∷ codes "9 turn b"
    ∷ codes "!2 take b/0 b.1 run"
    ∷ codes "!2 done true"
    ∷ codes "settle b?b/0 true"
    ∷ codes "left link b a settled @b b.0"
    ∷ codes "left link b a settled b?a/0 broken:\"not settled\""
    ∷ codes "left link c a settled @c c.0"
    ∷ codes "end"
    ∷ [])

-- the trees are those of these forms
abbrev pub Row16Reads : Type 0
Row16Reads =
    (read (codes "(call (noun E) send (noun b) (lit \"two\") (call (noun __makeList) run (noun c) (noun c)))") ≡ Ok tree_a)
    × (read (codes "(object (final t) () (method two ((final x) (final y)) (seq (object (final again) () (method run () (call (noun __equalizer) sameEver (noun x) (noun y)))) (call (noun E) send (noun again) (lit \"run\") (call (noun __makeList) run)) (call (noun __equalizer) sameEver (noun x) (noun y)))))") ≡ Ok tree_b)
    × (read (codes "(object (final o) ())") ≡ Ok tree_c)

-- opens the definitions of this file
unfoldable pub opened_row16 : Unit {0}
unfolding tree_a tree_b tree_c script
opened_row16 = tt
