-- A reference shortened to its own vat.
use Rattle.std.specs.Prelude.{◌≡◌, pos, List, [], ◌∷◌, None, Ok, codes}
use Rattle.def_run.specs.World.{Turn, Carry, Script, run}
use Rattle.def_run.specs.Text.{text}
use Rattle.def_kernel.specs.Reading.{read}
use Rattle.test_machine.specs.Endings.{lines}
use Rattle.def_kernel.specs.declared.node.Literal.TheVariants as literal
use Rattle.def_kernel.specs.declared.node.Node.{Node}
use Rattle.def_kernel.specs.declared.node.Node.TheVariants.{Lit, Noun, Def, Call, Sequence, Object, Method, Final}
use Rattle.test_machine.specs.Keys.{zeros}

-- def me { method put(x) { x } }; def r := b <- echo(me); r <- put(1); def go { method run() { r <- put(2) } }; go <- run()
unfoldable pub tree_a : List Node
tree_a =
    Sequence (1 ∷ 6 ∷ 15 ∷ 22 ∷ 32 ∷ [])
    ∷ Object 2 [] (3 ∷ [])
    ∷ Final (codes "me") None
    ∷ Method (codes "put") (4 ∷ []) 5
    ∷ Final (codes "x") None
    ∷ Noun (codes "x")
    ∷ Def 7 None 8
    ∷ Final (codes "r") None
    ∷ Call 9 (codes "send") (10 ∷ 11 ∷ 12 ∷ [])
    ∷ Noun (codes "E")
    ∷ Noun (codes "b")
    ∷ Lit (literal.Text (codes "echo"))
    ∷ Call 13 (codes "run") (14 ∷ [])
    ∷ Noun (codes "__makeList")
    ∷ Noun (codes "me")
    ∷ Call 16 (codes "send") (17 ∷ 18 ∷ 19 ∷ [])
    ∷ Noun (codes "E")
    ∷ Noun (codes "r")
    ∷ Lit (literal.Text (codes "put"))
    ∷ Call 20 (codes "run") (21 ∷ [])
    ∷ Noun (codes "__makeList")
    ∷ Lit (literal.Int (pos 1))
    ∷ Object 23 [] (24 ∷ [])
    ∷ Final (codes "go") None
    ∷ Method (codes "run") [] 25
    ∷ Call 26 (codes "send") (27 ∷ 28 ∷ 29 ∷ [])
    ∷ Noun (codes "E")
    ∷ Noun (codes "r")
    ∷ Lit (literal.Text (codes "put"))
    ∷ Call 30 (codes "run") (31 ∷ [])
    ∷ Noun (codes "__makeList")
    ∷ Lit (literal.Int (pos 2))
    ∷ Call 33 (codes "send") (34 ∷ 35 ∷ 36 ∷ [])
    ∷ Noun (codes "E")
    ∷ Noun (codes "go")
    ∷ Lit (literal.Text (codes "run"))
    ∷ Call 37 (codes "run") []
    ∷ Noun (codes "__makeList")
    ∷ []

-- def t { method echo(x) { x } }
unfoldable pub tree_b : List Node
tree_b =
    Object 1 [] (2 ∷ [])
    ∷ Final (codes "t") None
    ∷ Method (codes "echo") (3 ∷ []) 4
    ∷ Final (codes "x") None
    ∷ Noun (codes "x")
    ∷ []

unfoldable pub script : Script
script = record {
  key = zeros;
  fuel = 1000000;
  depth = 400;
  vats =
      record { name = codes "a"; knows = 1 ∷ []; tree = tree_a } ∷
      record { name = codes "b"; knows = []; tree = tree_b } ∷
      [];
  schedule = Carry 0 1 ∷ Carry 0 1 ∷ Turn 1 ∷ Carry 1 0 ∷ Carry 1 0 ∷ Carry 1 0 ∷ Turn 0 ∷ Carry 0 1 ∷ Turn 0 ∷ Carry 1 0 ∷ Turn 0 ∷ [];
}

abbrev pub Row13Holds : Type 0
Row13Holds = text script (run script) ≡ lines (
    codes "open a"
    ∷ codes "!0 made a.0 me"
    ∷ codes "!0 list a%0 a.0"
    ∷ codes "!0 send a/0 @b echo a.0 -> b?a/0"
    ∷ codes "!0 list a%1 1"
    ∷ codes "!0 send a/1 b?a/0 put 1 -> b?a/1"
    ∷ codes "!0 made a.1 go caps b?a/0"
    ∷ codes "!0 list a%2"
    ∷ codes "!0 send a/2 a.1 run -> a?a/2"
    ∷ codes "!0 done a?a/2"
    ∷ codes "wait @a a?a/2"
    ∷ codes "open b"
    ∷ codes "!0 made b.0 t"
    ∷ codes "!0 done b.0"
    ∷ codes "settle @b b.0"
    ∷ codes "1 carry a b deliver a/0 @b echo a.0"
    ∷ codes "2 carry a b deliver a/1 b?a/0 put 1"
    ∷ codes "3 turn b"
    ∷ codes "!1 take a/0 b.0 echo a.0"
    ∷ codes "!1 done a.0"
    ∷ codes "settle b?a/0 a.0"
    ∷ codes "wait b?a/1 a?a/1"
    ∷ codes "4 carry b a settled @b b.0"
    ∷ codes "settle @b b.0"
    ∷ codes "5 carry b a deliver a/1 a.0 put 1"
    ∷ codes "6 carry b a elsewhere b?a/0 a"
    ∷ codes "view b?a/0 a^0"
    ∷ codes "7 turn a"
    ∷ codes "!1 take a/2 a.1 run"
    ∷ codes "!1 list a%3 2"
    ∷ codes "!1 send a/3 b?a/0 put 2 -> a?a/3"
    ∷ codes "!1 done a?a/3"
    ∷ codes "wait a?a/2 a?a/3"
    ∷ codes "8 carry a b shorten b?a/0 a^0"
    ∷ codes "9 turn a"
    ∷ codes "!2 take a/1 a.0 put 1"
    ∷ codes "!2 done 1"
    ∷ codes "settle a?a/1 1"
    ∷ codes "10 carry b a open a^0 a.0"
    ∷ codes "settle a^0 a.0"
    ∷ codes "settle b?a/0 a.0"
    ∷ codes "11 turn a"
    ∷ codes "!3 take a/3 a.0 put 2"
    ∷ codes "!3 done 2"
    ∷ codes "settle a?a/3 2"
    ∷ codes "settle a?a/2 2"
    ∷ codes "settle @a 2"
    ∷ codes "left link a b settled a?a/1 1"
    ∷ codes "end"
    ∷ [])

-- the trees are those of these forms
abbrev pub Row13Reads : Type 0
Row13Reads =
    (read (codes "(seq (object (final me) () (method put ((final x)) (noun x))) (def (final r) (call (noun E) send (noun b) (lit \"echo\") (call (noun __makeList) run (noun me)))) (call (noun E) send (noun r) (lit \"put\") (call (noun __makeList) run (lit 1))) (object (final go) () (method run () (call (noun E) send (noun r) (lit \"put\") (call (noun __makeList) run (lit 2))))) (call (noun E) send (noun go) (lit \"run\") (call (noun __makeList) run)))") ≡ Ok tree_a)
    × (read (codes "(object (final t) () (method echo ((final x)) (noun x)))") ≡ Ok tree_b)

-- opens the definitions of this file
unfoldable pub opened_row13 : Unit {0}
unfolding tree_a tree_b script
opened_row13 = tt
