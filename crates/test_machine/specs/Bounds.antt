-- The least fuel and the depth of small programs.
use Rattle.std.specs.Prelude.{◌≡◌, pos, List, [], ◌∷◌, Some, None, Ok, codes}
use Rattle.def_kernel.specs.Reading.{read}
use Rattle.test_machine.specs.Endings.{ending_at}
use Rattle.def_kernel.specs.declared.node.Literal.TheVariants as literal
use Rattle.def_kernel.specs.declared.node.Node.{Node}
use Rattle.def_kernel.specs.declared.node.Node.TheVariants.{Lit, Noun, Def, Call, Sequence, Object, Method, Matcher, Final, ListPattern}

unfoldable pub case_0 : List Node
case_0 =
    Sequence (1 ∷ 5 ∷ [])
    ∷ Call 2 (codes "run") (3 ∷ 4 ∷ [])
    ∷ Noun (codes "__makeList")
    ∷ Lit (literal.Int (pos 1))
    ∷ Lit (literal.Int (pos 2))
    ∷ Call 6 (codes "add") (7 ∷ [])
    ∷ Lit (literal.Text (codes "a"))
    ∷ Lit (literal.Text (codes "bc"))
    ∷ []

unfoldable pub case_1 : List Node
case_1 =
    Sequence (1 ∷ 6 ∷ [])
    ∷ Object 2 [] (3 ∷ [])
    ∷ Final (codes "o") None
    ∷ Matcher 4 5
    ∷ Final (codes "m") None
    ∷ Lit (literal.Int (pos 1))
    ∷ Call 7 (codes "f") (8 ∷ 9 ∷ [])
    ∷ Noun (codes "o")
    ∷ Lit (literal.Int (pos 1))
    ∷ Lit (literal.Int (pos 2))
    ∷ []

unfoldable pub case_2 : List Node
case_2 =
    Call 1 (codes "promise") []
    ∷ Noun (codes "Ref")
    ∷ []

unfoldable pub case_3 : List Node
case_3 =
    Sequence (1 ∷ 6 ∷ [])
    ∷ Object 2 [] (3 ∷ [])
    ∷ Final (codes "f") None
    ∷ Method (codes "run") [] 4
    ∷ Call 5 (codes "run") []
    ∷ Noun (codes "f")
    ∷ Call 7 (codes "run") []
    ∷ Noun (codes "f")
    ∷ []

unfoldable pub case_4 : List Node
case_4 =
    Sequence (1 ∷ 9 ∷ [])
    ∷ Object 2 [] (3 ∷ [])
    ∷ Final (codes "f") None
    ∷ Method (codes "run") (4 ∷ []) 6
    ∷ Final (codes "x") (Some 5)
    ∷ Noun (codes "int")
    ∷ Call 7 (codes "run") (8 ∷ [])
    ∷ Noun (codes "f")
    ∷ Noun (codes "x")
    ∷ Call 10 (codes "run") (11 ∷ [])
    ∷ Noun (codes "f")
    ∷ Lit (literal.Int (pos 1))
    ∷ []

unfoldable pub case_5 : List Node
case_5 =
    Sequence (1 ∷ 8 ∷ [])
    ∷ Object 2 [] (3 ∷ [])
    ∷ Final (codes "o") None
    ∷ Matcher 4 6
    ∷ Final (codes "m") (Some 5)
    ∷ Noun (codes "any")
    ∷ Call 7 (codes "f") []
    ∷ Noun (codes "o")
    ∷ Call 9 (codes "f") []
    ∷ Noun (codes "o")
    ∷ []

unfoldable pub case_6 : List Node
case_6 =
    Sequence (1 ∷ 12 ∷ [])
    ∷ Object 2 [] (3 ∷ [])
    ∷ Final (codes "o") None
    ∷ Method (codes "coerce") (4 ∷ 5 ∷ []) 6
    ∷ Final (codes "s") None
    ∷ Final (codes "e") None
    ∷ Sequence (7 ∷ 11 ∷ [])
    ∷ Def 8 None 10
    ∷ Final (codes "x") (Some 9)
    ∷ Noun (codes "o")
    ∷ Noun (codes "s")
    ∷ Noun (codes "x")
    ∷ Def 13 None 15
    ∷ Final (codes "y") (Some 14)
    ∷ Noun (codes "o")
    ∷ Lit (literal.Int (pos 1))
    ∷ []

unfoldable pub case_7 : List Node
case_7 =
    Sequence (1 ∷ 10 ∷ [])
    ∷ Object 2 [] (3 ∷ [])
    ∷ Final (codes "j") None
    ∷ Method (codes "run") (4 ∷ []) 5
    ∷ Final (codes "p") None
    ∷ Def 6 (Some 8) 9
    ∷ ListPattern (7 ∷ [])
    ∷ Final (codes "x") None
    ∷ Noun (codes "j")
    ∷ Noun (codes "p")
    ∷ Def 11 (Some 13) 14
    ∷ ListPattern (12 ∷ [])
    ∷ Final (codes "x") None
    ∷ Noun (codes "j")
    ∷ Lit (literal.Int (pos 1))
    ∷ []

unfoldable pub case_8 : List Node
case_8 =
    Sequence (1 ∷ 11 ∷ [])
    ∷ Object 2 [] (3 ∷ [])
    ∷ Final (codes "o") None
    ∷ Method (codes "run") (4 ∷ 5 ∷ []) 6
    ∷ Final (codes "i") None
    ∷ Final (codes "x") None
    ∷ Call 7 (codes "iterate") (10 ∷ [])
    ∷ Call 8 (codes "run") (9 ∷ [])
    ∷ Noun (codes "__makeList")
    ∷ Lit (literal.Int (pos 1))
    ∷ Noun (codes "o")
    ∷ Call 12 (codes "run") (13 ∷ 14 ∷ [])
    ∷ Noun (codes "o")
    ∷ Lit (literal.Int (pos 1))
    ∷ Lit (literal.Int (pos 2))
    ∷ []

unfoldable pub case_9 : List Node
case_9 =
    Sequence (1 ∷ 8 ∷ [])
    ∷ Object 2 [] (3 ∷ [])
    ∷ Final (codes "o") None
    ∷ Method (codes "audit") (4 ∷ []) 5
    ∷ Final (codes "n") None
    ∷ Call 6 (codes "ask") (7 ∷ [])
    ∷ Noun (codes "n")
    ∷ Noun (codes "o")
    ∷ Object 9 (10 ∷ []) []
    ∷ Final (codes "x") None
    ∷ Noun (codes "o")
    ∷ []

-- the trees are those of these forms
abbrev pub BoundsRead : Type 0
BoundsRead =
    (read (codes "(seq (call (noun __makeList) run (lit 1) (lit 2)) (call (lit \"a\") add (lit \"bc\")))") ≡ Ok case_0)
    × (read (codes "(seq (object (final o) () (matcher (final m) (lit 1))) (call (noun o) f (lit 1) (lit 2)))") ≡ Ok case_1)
    × (read (codes "(call (noun Ref) promise)") ≡ Ok case_2)
    × (read (codes "(seq (object (final f) () (method run () (call (noun f) run))) (call (noun f) run))") ≡ Ok case_3)
    × (read (codes "(seq (object (final f) () (method run ((final x (noun int))) (call (noun f) run (noun x)))) (call (noun f) run (lit 1)))") ≡ Ok case_4)
    × (read (codes "(seq (object (final o) () (matcher (final m (noun any)) (call (noun o) f))) (call (noun o) f))") ≡ Ok case_5)
    × (read (codes "(seq (object (final o) () (method coerce ((final s) (final e)) (seq (def (final x (noun o)) (noun s)) (noun x)))) (def (final y (noun o)) (lit 1)))") ≡ Ok case_6)
    × (read (codes "(seq (object (final j) () (method run ((final p)) (def (list (final x)) exit (noun j) (noun p)))) (def (list (final x)) exit (noun j) (lit 1)))") ≡ Ok case_7)
    × (read (codes "(seq (object (final o) () (method run ((final i) (final x)) (call (call (noun __makeList) run (lit 1)) iterate (noun o)))) (call (noun o) run (lit 1) (lit 2)))") ≡ Ok case_8)
    × (read (codes "(seq (object (final o) () (method audit ((final n)) (call (noun n) ask (noun o)))) (object (final x) ((noun o))))") ≡ Ok case_9)

-- with so much fuel and so great a depth, how each ends
abbrev pub BoundsHold : Type 0
BoundsHold =
    (ending_at 13 400 case_0 ≡ codes "settle @a \"abc\"")
    × (ending_at 12 400 case_0 ≡ codes "stop fuel 0")
    × (ending_at 12 400 case_1 ≡ codes "settle @a 1")
    × (ending_at 11 400 case_1 ≡ codes "stop fuel 0")
    × (ending_at 4 400 case_2 ≡ codes "settle @a a%0")
    × (ending_at 3 400 case_2 ≡ codes "stop fuel 0")
    × (ending_at 799 400 case_3 ≡ codes "stop depth 0")
    × (ending_at 798 400 case_3 ≡ codes "stop fuel 0")
    × (ending_at 39 20 case_3 ≡ codes "stop depth 0")
    × (ending_at 38 20 case_3 ≡ codes "stop fuel 0")
    × (ending_at 91 20 case_4 ≡ codes "stop depth 0")
    × (ending_at 90 20 case_4 ≡ codes "stop fuel 0")
    × (ending_at 109 20 case_5 ≡ codes "stop depth 0")
    × (ending_at 108 20 case_5 ≡ codes "stop fuel 0")
    × (ending_at 45 20 case_6 ≡ codes "stop depth 0")
    × (ending_at 44 20 case_6 ≡ codes "stop fuel 0")
    × (ending_at 48 20 case_7 ≡ codes "stop depth 0")
    × (ending_at 47 20 case_7 ≡ codes "stop fuel 0")
    × (ending_at 138 20 case_8 ≡ codes "stop depth 0")
    × (ending_at 137 20 case_8 ≡ codes "stop fuel 0")
    × (ending_at 74 20 case_9 ≡ codes "stop depth 0")
    × (ending_at 73 20 case_9 ≡ codes "stop fuel 0")

-- opens the definitions of this file
unfoldable pub opened_bounds : Unit {0}
unfolding case_0 case_1 case_2 case_3 case_4 case_5 case_6 case_7 case_8 case_9
opened_bounds = tt
