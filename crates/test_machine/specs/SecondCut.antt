-- A second cut and a second notice.
use Rattle.std.specs.Prelude.{◌≡◌, pos, List, [], ◌∷◌, None, Ok, codes}
use Rattle.def_run.specs.World.{CutLink, NoticeLink, Script, run}
use Rattle.def_run.specs.Text.{text}
use Rattle.def_kernel.specs.Reading.{read}
use Rattle.test_machine.specs.Endings.{lines}
use Rattle.def_kernel.specs.declared.node.Literal.TheVariants as literal
use Rattle.def_kernel.specs.declared.node.Node.{Node}
use Rattle.def_kernel.specs.declared.node.Node.TheVariants.{Lit, Noun, Def, Call, Sequence, Object, Method, Final}
use Rattle.test_machine.specs.Keys.{zeros}

-- def r := b <- f(1); def go { method run() { b <- f(2) } }; go <- run()
unfoldable pub tree_a : List Node
tree_a =
    Sequence (1 ∷ 10 ∷ 20 ∷ [])
    ∷ Def 2 None 3
    ∷ Final (codes "r") None
    ∷ Call 4 (codes "send") (5 ∷ 6 ∷ 7 ∷ [])
    ∷ Noun (codes "E")
    ∷ Noun (codes "b")
    ∷ Lit (literal.Text (codes "f"))
    ∷ Call 8 (codes "run") (9 ∷ [])
    ∷ Noun (codes "__makeList")
    ∷ Lit (literal.Int (pos 1))
    ∷ Object 11 [] (12 ∷ [])
    ∷ Final (codes "go") None
    ∷ Method (codes "run") [] 13
    ∷ Call 14 (codes "send") (15 ∷ 16 ∷ 17 ∷ [])
    ∷ Noun (codes "E")
    ∷ Noun (codes "b")
    ∷ Lit (literal.Text (codes "f"))
    ∷ Call 18 (codes "run") (19 ∷ [])
    ∷ Noun (codes "__makeList")
    ∷ Lit (literal.Int (pos 2))
    ∷ Call 21 (codes "send") (22 ∷ 23 ∷ 24 ∷ [])
    ∷ Noun (codes "E")
    ∷ Noun (codes "go")
    ∷ Lit (literal.Text (codes "run"))
    ∷ Call 25 (codes "run") []
    ∷ Noun (codes "__makeList")
    ∷ []

-- def t { method f(x) { x } }
unfoldable pub tree_b : List Node
tree_b =
    Object 1 [] (2 ∷ [])
    ∷ Final (codes "t") None
    ∷ Method (codes "f") (3 ∷ []) 4
    ∷ Final (codes "x") None
    ∷ Noun (codes "x")
    ∷ []

unfoldable pub script : Script
script = record {
  key = zeros;
  fuel = 1000000;
  depth = 400;
  vats =
      record { name = codes "a"; knows = 1 ∷ []; tree = tree_a } ∷
      record { name = codes "b"; knows = []; tree = tree_b } ∷
      [];
  schedule = CutLink 0 1 ∷ CutLink 0 1 ∷ NoticeLink 0 1 ∷ NoticeLink 0 1 ∷ [];
}

abbrev pub SecondCutHolds : Type 0
SecondCutHolds = text script (run script) ≡ lines (
    codes "open a"
    ∷ codes "!0 list a%0 1"
    ∷ codes "!0 send a/0 @b f 1 -> b?a/0"
    ∷ codes "!0 made a.0 go caps @b"
    ∷ codes "!0 list a%1"
    ∷ codes "!0 send a/1 a.0 run -> a?a/1"
    ∷ codes "!0 done a?a/1"
    ∷ codes "wait @a a?a/1"
    ∷ codes "open b"
    ∷ codes "!0 made b.0 t"
    ∷ codes "!0 done b.0"
    ∷ codes "settle @b b.0"
    ∷ codes "1 cut a b"
    ∷ codes "lost a/0 cut"
    ∷ codes "2 cut a b"
    ∷ codes "3 notice a b"
    ∷ codes "settle @b broken:\"partition\""
    ∷ codes "settle b?a/0 broken:\"partition\""
    ∷ codes "4 notice a b"
    ∷ codes "left queue a a/1"
    ∷ codes "end"
    ∷ [])

-- the trees are those of these forms
abbrev pub SecondCutReads : Type 0
SecondCutReads =
    (read (codes "(seq (def (final r) (call (noun E) send (noun b) (lit \"f\") (call (noun __makeList) run (lit 1)))) (object (final go) () (method run () (call (noun E) send (noun b) (lit \"f\") (call (noun __makeList) run (lit 2))))) (call (noun E) send (noun go) (lit \"run\") (call (noun __makeList) run)))") ≡ Ok tree_a)
    × (read (codes "(object (final t) () (method f ((final x)) (noun x)))") ≡ Ok tree_b)

-- opens the definitions of this file
unfoldable pub opened_secondcut : Unit {0}
unfolding tree_a tree_b script
opened_secondcut = tt
