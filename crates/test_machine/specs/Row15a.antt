-- Two promises that wait on each other in two vats.
use Rattle.std.specs.Prelude.{◌≡◌, List, [], ◌∷◌, None, Ok, codes}
use Rattle.def_run.specs.World.{Turn, Carry, Script, run}
use Rattle.def_run.specs.Text.{text}
use Rattle.def_kernel.specs.Reading.{read}
use Rattle.test_machine.specs.Endings.{lines}
use Rattle.def_kernel.specs.declared.node.Literal.TheVariants as literal
use Rattle.def_kernel.specs.declared.node.Node.{Node}
use Rattle.def_kernel.specs.declared.node.Node.TheVariants.{Lit, Noun, Def, Call, Sequence, Object, Method, Final, ListPattern}
use Rattle.test_machine.specs.Keys.{zeros}

-- def [p, r] := Ref.promise(); r.resolve(b <- swap(p)); p <- hi()
unfoldable pub tree_a : List Node
tree_a =
    Sequence (1 ∷ 7 ∷ 16 ∷ [])
    ∷ Def 2 None 5
    ∷ ListPattern (3 ∷ 4 ∷ [])
    ∷ Final (codes "p") None
    ∷ Final (codes "r") None
    ∷ Call 6 (codes "promise") []
    ∷ Noun (codes "Ref")
    ∷ Call 8 (codes "resolve") (9 ∷ [])
    ∷ Noun (codes "r")
    ∷ Call 10 (codes "send") (11 ∷ 12 ∷ 13 ∷ [])
    ∷ Noun (codes "E")
    ∷ Noun (codes "b")
    ∷ Lit (literal.Text (codes "swap"))
    ∷ Call 14 (codes "run") (15 ∷ [])
    ∷ Noun (codes "__makeList")
    ∷ Noun (codes "p")
    ∷ Call 17 (codes "send") (18 ∷ 19 ∷ 20 ∷ [])
    ∷ Noun (codes "E")
    ∷ Noun (codes "p")
    ∷ Lit (literal.Text (codes "hi"))
    ∷ Call 21 (codes "run") []
    ∷ Noun (codes "__makeList")
    ∷ []

-- def t { method swap(x) { x } }
unfoldable pub tree_b : List Node
tree_b =
    Object 1 [] (2 ∷ [])
    ∷ Final (codes "t") None
    ∷ Method (codes "swap") (3 ∷ []) 4
    ∷ Final (codes "x") None
    ∷ Noun (codes "x")
    ∷ []

unfoldable pub script : Script
script = record {
  key = zeros;
  fuel = 1000000;
  depth = 400;
  vats =
      record { name = codes "a"; knows = 1 ∷ []; tree = tree_a } ∷
      record { name = codes "b"; knows = []; tree = tree_b } ∷
      [];
  schedule = Carry 0 1 ∷ Turn 1 ∷ [];
}

abbrev pub Row15aHolds : Type 0
Row15aHolds = text script (run script) ≡ lines (
    codes "open a"
    ∷ codes "!0 promise a~0 a.0"
    ∷ codes "!0 list a%0 a~0 a.0"
    ∷ codes "!0 list a%1 a~0"
    ∷ codes "!0 send a/0 @b swap a~0 -> b?a/0"
    ∷ codes "!0 call a.0 resolve b?a/0"
    ∷ codes "wait a~0 b?a/0"
    ∷ codes "!0 back null"
    ∷ codes "!0 list a%2"
    ∷ codes "!0 send a/1 a~0 hi -> a?a/1"
    ∷ codes "!0 done a?a/1"
    ∷ codes "wait @a a?a/1"
    ∷ codes "open b"
    ∷ codes "!0 made b.0 t"
    ∷ codes "!0 done b.0"
    ∷ codes "settle @b b.0"
    ∷ codes "1 carry a b deliver a/0 @b swap a~0"
    ∷ codes "2 turn b"
    ∷ codes "!1 take a/0 b.0 swap a~0"
    ∷ codes "!1 done a~0"
    ∷ codes "wait b?a/0 a~0"
    ∷ codes "left held a a~0 a/1"
    ∷ codes "left link b a settled @b b.0"
    ∷ codes "end"
    ∷ [])

-- the trees are those of these forms
abbrev pub Row15aReads : Type 0
Row15aReads =
    (read (codes "(seq (def (list (final p) (final r)) (call (noun Ref) promise)) (call (noun r) resolve (call (noun E) send (noun b) (lit \"swap\") (call (noun __makeList) run (noun p)))) (call (noun E) send (noun p) (lit \"hi\") (call (noun __makeList) run)))") ≡ Ok tree_a)
    × (read (codes "(object (final t) () (method swap ((final x)) (noun x)))") ≡ Ok tree_b)

-- opens the definitions of this file
unfoldable pub opened_row15a : Unit {0}
unfolding tree_a tree_b script
opened_row15a = tt
