-- A message behind one that a cut lost is lost too.
use Rattle.std.specs.Prelude.{◌≡◌, pos, List, [], ◌∷◌, None, Ok, codes}
use Rattle.def_run.specs.World.{Turn, Carry, CutLink, NoticeLink, Script, run}
use Rattle.def_run.specs.Text.{text}
use Rattle.def_kernel.specs.Reading.{read}
use Rattle.test_machine.specs.Endings.{lines}
use Rattle.def_kernel.specs.declared.node.Literal.TheVariants as literal
use Rattle.def_kernel.specs.declared.node.Node.{Node}
use Rattle.def_kernel.specs.declared.node.Node.TheVariants.{Lit, Noun, Def, Call, Sequence, Object, Method, Final}
use Rattle.test_machine.specs.Keys.{zeros}

-- def r := b <- get(); r <- put(1); def go { method run() { r <- put(2) } }; go <- run()
unfoldable pub tree_a : List Node
tree_a =
    Sequence (1 ∷ 9 ∷ 16 ∷ 26 ∷ [])
    ∷ Def 2 None 3
    ∷ Final (codes "r") None
    ∷ Call 4 (codes "send") (5 ∷ 6 ∷ 7 ∷ [])
    ∷ Noun (codes "E")
    ∷ Noun (codes "b")
    ∷ Lit (literal.Text (codes "get"))
    ∷ Call 8 (codes "run") []
    ∷ Noun (codes "__makeList")
    ∷ Call 10 (codes "send") (11 ∷ 12 ∷ 13 ∷ [])
    ∷ Noun (codes "E")
    ∷ Noun (codes "r")
    ∷ Lit (literal.Text (codes "put"))
    ∷ Call 14 (codes "run") (15 ∷ [])
    ∷ Noun (codes "__makeList")
    ∷ Lit (literal.Int (pos 1))
    ∷ Object 17 [] (18 ∷ [])
    ∷ Final (codes "go") None
    ∷ Method (codes "run") [] 19
    ∷ Call 20 (codes "send") (21 ∷ 22 ∷ 23 ∷ [])
    ∷ Noun (codes "E")
    ∷ Noun (codes "r")
    ∷ Lit (literal.Text (codes "put"))
    ∷ Call 24 (codes "run") (25 ∷ [])
    ∷ Noun (codes "__makeList")
    ∷ Lit (literal.Int (pos 2))
    ∷ Call 27 (codes "send") (28 ∷ 29 ∷ 30 ∷ [])
    ∷ Noun (codes "E")
    ∷ Noun (codes "go")
    ∷ Lit (literal.Text (codes "run"))
    ∷ Call 31 (codes "run") []
    ∷ Noun (codes "__makeList")
    ∷ []

-- def t { method get() { c } }
unfoldable pub tree_b : List Node
tree_b =
    Object 1 [] (2 ∷ [])
    ∷ Final (codes "t") None
    ∷ Method (codes "get") [] 3
    ∷ Noun (codes "c")
    ∷ []

-- def o { method put(x) { x } }
unfoldable pub tree_c : List Node
tree_c =
    Object 1 [] (2 ∷ [])
    ∷ Final (codes "o") None
    ∷ Method (codes "put") (3 ∷ []) 4
    ∷ Final (codes "x") None
    ∷ Noun (codes "x")
    ∷ []

unfoldable pub script : Script
script = record {
  key = zeros;
  fuel = 1000000;
  depth = 400;
  vats =
      record { name = codes "a"; knows = 1 ∷ []; tree = tree_a } ∷
      record { name = codes "b"; knows = 2 ∷ []; tree = tree_b } ∷
      record { name = codes "c"; knows = []; tree = tree_c } ∷
      [];
  schedule = Carry 2 1 ∷ Carry 0 1 ∷ Carry 0 1 ∷ Turn 1 ∷ Carry 1 0 ∷ Carry 1 0 ∷ Turn 0 ∷ Carry 0 2 ∷ Carry 0 2 ∷ Carry 0 1 ∷ CutLink 1 2 ∷ NoticeLink 2 1 ∷ [];
}

abbrev pub OrderOverACutHolds : Type 0
OrderOverACutHolds = text script (run script) ≡ lines (
    codes "open a"
    ∷ codes "!0 list a%0"
    ∷ codes "!0 send a/0 @b get -> b?a/0"
    ∷ codes "!0 list a%1 1"
    ∷ codes "!0 send a/1 b?a/0 put 1 -> b?a/1"
    ∷ codes "!0 made a.0 go caps b?a/0"
    ∷ codes "!0 list a%2"
    ∷ codes "!0 send a/2 a.0 run -> a?a/2"
    ∷ codes "!0 done a?a/2"
    ∷ codes "wait @a a?a/2"
    ∷ codes "open b"
    ∷ codes "!0 made b.0 t caps @c"
    ∷ codes "!0 done b.0"
    ∷ codes "settle @b b.0"
    ∷ codes "open c"
    ∷ codes "!0 made c.0 o"
    ∷ codes "!0 done c.0"
    ∷ codes "settle @c c.0"
    ∷ codes "1 carry c b settled @c c.0"
    ∷ codes "settle @c c.0"
    ∷ codes "2 carry a b deliver a/0 @b get"
    ∷ codes "3 carry a b deliver a/1 b?a/0 put 1"
    ∷ codes "4 turn b"
    ∷ codes "!1 take a/0 b.0 get"
    ∷ codes "!1 done @c"
    ∷ codes "settle b?a/0 c.0"
    ∷ codes "wait b?a/1 c?a/1"
    ∷ codes "5 carry b a settled @b b.0"
    ∷ codes "settle @b b.0"
    ∷ codes "6 carry b a elsewhere b?a/0 c"
    ∷ codes "view b?a/0 c^0"
    ∷ codes "7 turn a"
    ∷ codes "!1 take a/2 a.0 run"
    ∷ codes "!1 list a%3 2"
    ∷ codes "!1 send a/3 b?a/0 put 2 -> c?a/3"
    ∷ codes "!1 done c?a/3"
    ∷ codes "wait a?a/2 c?a/3"
    ∷ codes "8 carry a c ask c^0 b"
    ∷ codes "9 carry a c deliver a/3 c^0 put 2"
    ∷ codes "10 carry a b shorten b?a/0 c^0"
    ∷ codes "11 cut b c"
    ∷ codes "lost a/1 cut"
    ∷ codes "12 notice c b"
    ∷ codes "settle c^0 broken:\"partition\""
    ∷ codes "lost a/3 broken"
    ∷ codes "settle c?a/3 broken:\"partition\""
    ∷ codes "left link c a settled c?a/3 broken:\"partition\""
    ∷ codes "left link c a settled c^0 broken:\"partition\""
    ∷ codes "end"
    ∷ [])

-- the trees are those of these forms
abbrev pub OrderOverACutReads : Type 0
OrderOverACutReads =
    (read (codes "(seq (def (final r) (call (noun E) send (noun b) (lit \"get\") (call (noun __makeList) run))) (call (noun E) send (noun r) (lit \"put\") (call (noun __makeList) run (lit 1))) (object (final go) () (method run () (call (noun E) send (noun r) (lit \"put\") (call (noun __makeList) run (lit 2))))) (call (noun E) send (noun go) (lit \"run\") (call (noun __makeList) run)))") ≡ Ok tree_a)
    × (read (codes "(object (final t) () (method get () (noun c)))") ≡ Ok tree_b)
    × (read (codes "(object (final o) () (method put ((final x)) (noun x)))") ≡ Ok tree_c)

-- opens the definitions of this file
unfoldable pub opened_orderoveracut : Unit {0}
unfolding tree_a tree_b tree_c script
opened_orderoveracut = tt
