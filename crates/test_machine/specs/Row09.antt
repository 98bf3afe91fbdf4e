-- Messages are taken in order.
use Rattle.std.specs.Prelude.{◌≡◌, pos, List, [], ◌∷◌, None, Ok, codes}
use Rattle.def_run.specs.World.{Turn, Script, run}
use Rattle.def_run.specs.Text.{text}
use Rattle.def_kernel.specs.Reading.{read}
use Rattle.test_machine.specs.Endings.{lines}
use Rattle.def_kernel.specs.declared.node.Literal.TheVariants as literal
use Rattle.def_kernel.specs.declared.node.Node.{Node}
use Rattle.def_kernel.specs.declared.node.Node.TheVariants.{Lit, Noun, Call, Sequence, Object, Method, Final}
use Rattle.test_machine.specs.Keys.{zeros}

-- def o { method f(x) { x } }; o <- f(1); o <- f(2)
unfoldable pub tree_a : List Node
tree_a =
    Sequence (1 ∷ 6 ∷ 13 ∷ [])
    ∷ Object 2 [] (3 ∷ [])
    ∷ Final (codes "o") None
    ∷ Method (codes "f") (4 ∷ []) 5
    ∷ Final (codes "x") None
    ∷ Noun (codes "x")
    ∷ Call 7 (codes "send") (8 ∷ 9 ∷ 10 ∷ [])
    ∷ Noun (codes "E")
    ∷ Noun (codes "o")
    ∷ Lit (literal.Text (codes "f"))
    ∷ Call 11 (codes "run") (12 ∷ [])
    ∷ Noun (codes "__makeList")
    ∷ Lit (literal.Int (pos 1))
    ∷ Call 14 (codes "send") (15 ∷ 16 ∷ 17 ∷ [])
    ∷ Noun (codes "E")
    ∷ Noun (codes "o")
    ∷ Lit (literal.Text (codes "f"))
    ∷ Call 18 (codes "run") (19 ∷ [])
    ∷ Noun (codes "__makeList")
    ∷ Lit (literal.Int (pos 2))
    ∷ []

unfoldable pub script : Script
script = record {
  key = zeros;
  fuel = 1000000;
  depth = 400;
  vats =
      record { name = codes "a"; knows = []; tree = tree_a } ∷
      [];
  schedule = Turn 0 ∷ Turn 0 ∷ Turn 0 ∷ [];
}

abbrev pub Row09Holds : Type 0
Row09Holds = text script (run script) ≡ lines (
    codes "open a"
    ∷ codes "!0 made a.0 o"
    ∷ codes "!0 list a%0 1"
    ∷ codes "!0 send a/0 a.0 f 1 -> a?a/0"
    ∷ codes "!0 list a%1 2"
    ∷ codes "!0 send a/1 a.0 f 2 -> a?a/1"
    ∷ codes "!0 done a?a/1"
    ∷ codes "wait @a a?a/1"
    ∷ codes "1 turn a"
    ∷ codes "!1 take a/0 a.0 f 1"
    ∷ codes "!1 done 1"
    ∷ codes "settle a?a/0 1"
    ∷ codes "2 turn a"
    ∷ codes "!2 take a/1 a.0 f 2"
    ∷ codes "!2 done 2"
    ∷ codes "settle a?a/1 2"
    ∷ codes "settle @a 2"
    ∷ codes "3 idle"
    ∷ codes "end"
    ∷ [])

-- the trees are those of these forms
abbrev pub Row09Reads : Type 0
Row09Reads =
    (read (codes "(seq (object (final o) () (method f ((final x)) (noun x))) (call (noun E) send (noun o) (lit \"f\") (call (noun __makeList) run (lit 1))) (call (noun E) send (noun o) (lit \"f\") (call (noun __makeList) run (lit 2))))") ≡ Ok tree_a)

-- opens the definitions of this file
unfoldable pub opened_row09 : Unit {0}
unfolding tree_a script
opened_row09 = tt
