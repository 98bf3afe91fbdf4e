-- A message sent on an answer that is not there yet.
use Rattle.std.specs.Prelude.{◌≡◌, pos, List, [], ◌∷◌, None, Ok, codes}
use Rattle.def_run.specs.World.{Turn, Carry, Script, run}
use Rattle.def_run.specs.Text.{wire_text}
use Rattle.def_kernel.specs.Reading.{read}
use Rattle.test_machine.specs.Endings.{lines}
use Rattle.def_kernel.specs.declared.node.Literal.TheVariants as literal
use Rattle.def_kernel.specs.declared.node.Node.{Node}
use Rattle.def_kernel.specs.declared.node.Node.TheVariants.{Lit, Noun, Call, Sequence, Object, Method, Final}
use Rattle.test_machine.specs.Keys.{zeros}

-- b <- getX() <- getY()
unfoldable pub tree_a : List Node
tree_a =
    Call 1 (codes "send") (2 ∷ 8 ∷ 9 ∷ [])
    ∷ Noun (codes "E")
    ∷ Call 3 (codes "send") (4 ∷ 5 ∷ 6 ∷ [])
    ∷ Noun (codes "E")
    ∷ Noun (codes "b")
    ∷ Lit (literal.Text (codes "getX"))
    ∷ Call 7 (codes "run") []
    ∷ Noun (codes "__makeList")
    ∷ Lit (literal.Text (codes "getY"))
    ∷ Call 10 (codes "run") []
    ∷ Noun (codes "__makeList")
    ∷ []

-- def x { method getY() { 7 } }; def t { method getX() { x } }
unfoldable pub tree_b : List Node
tree_b =
    Sequence (1 ∷ 5 ∷ [])
    ∷ Object 2 [] (3 ∷ [])
    ∷ Final (codes "x") None
    ∷ Method (codes "getY") [] 4
    ∷ Lit (literal.Int (pos 7))
    ∷ Object 6 [] (7 ∷ [])
    ∷ Final (codes "t") None
    ∷ Method (codes "getX") [] 8
    ∷ Noun (codes "x")
    ∷ []

unfoldable pub script : Script
script = record {
  key = zeros;
  fuel = 1000000;
  depth = 400;
  vats =
      record { name = codes "a"; knows = 1 ∷ []; tree = tree_a } ∷
      record { name = codes "b"; knows = []; tree = tree_b } ∷
      [];
  schedule = Carry 0 1 ∷ Carry 0 1 ∷ Turn 1 ∷ Turn 1 ∷ [];
}

abbrev pub Row10Holds : Type 0
Row10Holds = wire_text script (run script) ≡ lines (
    codes "open a"
    ∷ codes "!0 list a%0"
    ∷ codes "!0 send a/0 @b getX -> b?a/0"
    ∷ codes "!0 list a%1"
    ∷ codes "!0 send a/1 b?a/0 getY -> b?a/1"
    ∷ codes "!0 done b?a/1"
    ∷ codes "wait @a b?a/1"
    ∷ codes "open b"
    ∷ codes "!0 made b.0 x"
    ∷ codes "!0 made b.1 t caps b.0"
    ∷ codes "!0 done b.1"
    ∷ codes "settle @b b.1"
    ∷ codes "1 carry a b deliver a/0 @b getX"
    ∷ codes "frame 01000900046765745800"
    ∷ codes "2 carry a b deliver a/1 b?a/0 getY"
    ∷ codes "frame 01010a00046765745900"
    ∷ codes "3 turn b"
    ∷ codes "!1 take a/0 b.1 getX"
    ∷ codes "!1 done b.0"
    ∷ codes "settle b?a/0 b.0"
    ∷ codes "4 turn b"
    ∷ codes "!2 take a/1 b.0 getY"
    ∷ codes "!2 done 7"
    ∷ codes "settle b?a/1 7"
    ∷ codes "left link b a settled @b b.1"
    ∷ codes "left link b a settled b?a/0 b.0"
    ∷ codes "left link b a settled b?a/1 7"
    ∷ codes "end"
    ∷ [])

-- the trees are those of these forms
abbrev pub Row10Reads : Type 0
Row10Reads =
    (read (codes "(call (noun E) send (call (noun E) send (noun b) (lit \"getX\") (call (noun __makeList) run)) (lit \"getY\") (call (noun __makeList) run))") ≡ Ok tree_a)
    × (read (codes "(seq (object (final x) () (method getY () (lit 7))) (object (final t) () (method getX () (noun x))))") ≡ Ok tree_b)

-- opens the definitions of this file
unfoldable pub opened_row10 : Unit {0}
unfolding tree_a tree_b script
opened_row10 = tt
