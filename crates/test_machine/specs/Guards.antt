-- Guards, ejectors and patterns.
use Rattle.std.specs.Prelude.{◌≡◌, pos, List, [], ◌∷◌, Some, None, Ok, codes}
use Rattle.def_kernel.specs.Reading.{read}
use Rattle.test_machine.specs.Endings.{ending_of}
use Rattle.def_kernel.specs.declared.node.Literal.TheVariants as literal
use Rattle.def_kernel.specs.declared.node.Node.{Node}
use Rattle.def_kernel.specs.declared.node.Node.TheVariants.{Lit, Noun, Set, Def, Call, Sequence, If, Escape, Try, Finally, Hide, MatchBind, Object, Method, Final, Var, Any, ListPattern, Via}

unfoldable pub case_0 : List Node
case_0 =
    Escape 1 2 None
    ∷ Final (codes "ej") None
    ∷ Finally 3 6
    ∷ Call 4 (codes "run") (5 ∷ [])
    ∷ Noun (codes "ej")
    ∷ Lit (literal.Int (pos 1))
    ∷ Call 7 (codes "run") (8 ∷ [])
    ∷ Noun (codes "ej")
    ∷ Lit (literal.Int (pos 2))
    ∷ []

unfoldable pub case_1 : List Node
case_1 =
    Escape 1 2 None
    ∷ Final (codes "ej") None
    ∷ Call 3 (codes "run") []
    ∷ Noun (codes "ej")
    ∷ []

unfoldable pub case_2 : List Node
case_2 =
    Escape 1 2 (Some (5, 6))
    ∷ Final (codes "ej") None
    ∷ Call 3 (codes "run") (4 ∷ [])
    ∷ Noun (codes "ej")
    ∷ Lit (literal.Int (pos 1))
    ∷ Final (codes "x") None
    ∷ Call 7 (codes "add") (8 ∷ [])
    ∷ Noun (codes "x")
    ∷ Lit (literal.Int (pos 1))
    ∷ []

unfoldable pub case_3 : List Node
case_3 =
    Escape 1 2 None
    ∷ Final (codes "ej") None
    ∷ Try 3 6 7
    ∷ Call 4 (codes "run") (5 ∷ [])
    ∷ Noun (codes "ej")
    ∷ Lit (literal.Int (pos 1))
    ∷ Any None
    ∷ Lit (literal.Int (pos 3))
    ∷ []

unfoldable pub case_4 : List Node
case_4 =
    Escape 1 2 None
    ∷ Final (codes "ej") None
    ∷ Call 3 (codes "run") (4 ∷ 5 ∷ [])
    ∷ Noun (codes "ej")
    ∷ Lit (literal.Int (pos 1))
    ∷ Lit (literal.Int (pos 2))
    ∷ []

unfoldable pub case_5 : List Node
case_5 =
    Sequence (1 ∷ 5 ∷ [])
    ∷ Def 2 None 4
    ∷ Var (codes "x") (Some 3)
    ∷ Noun (codes "int")
    ∷ Lit (literal.Int (pos 1))
    ∷ Set (codes "x") 6
    ∷ Lit (literal.Int (pos 5))
    ∷ []

unfoldable pub case_6 : List Node
case_6 =
    Sequence (1 ∷ 5 ∷ [])
    ∷ Def 2 None 4
    ∷ Var (codes "x") (Some 3)
    ∷ Noun (codes "int")
    ∷ Lit (literal.Int (pos 1))
    ∷ Set (codes "x") 6
    ∷ Lit (literal.Text (codes "a"))
    ∷ []

unfoldable pub case_7 : List Node
case_7 =
    Sequence (1 ∷ 5 ∷ [])
    ∷ Def 2 None 4
    ∷ Var (codes "x") (Some 3)
    ∷ Noun (codes "void")
    ∷ Lit (literal.Int (pos 1))
    ∷ Set (codes "x") 6
    ∷ Lit (literal.Int (pos 5))
    ∷ []

unfoldable pub case_8 : List Node
case_8 =
    Def 1 None 3
    ∷ Final (codes "x") (Some 2)
    ∷ Noun (codes "void")
    ∷ Lit (literal.Int (pos 5))
    ∷ []

unfoldable pub case_9 : List Node
case_9 =
    Sequence (1 ∷ 5 ∷ [])
    ∷ Def 2 None 4
    ∷ Final (codes "x") (Some 3)
    ∷ Noun (codes "void")
    ∷ Lit (literal.Int (pos 5))
    ∷ Noun (codes "x")
    ∷ []

unfoldable pub case_10 : List Node
case_10 =
    Def 1 (Some 3) 4
    ∷ Final (codes "x") (Some 2)
    ∷ Noun (codes "int")
    ∷ Noun (codes "null")
    ∷ Lit (literal.Text (codes "a"))
    ∷ []

unfoldable pub case_11 : List Node
case_11 =
    Def 1 (Some 3) 4
    ∷ Final (codes "x") (Some 2)
    ∷ Noun (codes "int")
    ∷ Lit (literal.Int (pos 5))
    ∷ Lit (literal.Text (codes "a"))
    ∷ []

unfoldable pub case_12 : List Node
case_12 =
    Def 1 None 3
    ∷ Final (codes "x") (Some 2)
    ∷ Lit (literal.Int (pos 5))
    ∷ Lit (literal.Text (codes "a"))
    ∷ []

unfoldable pub case_13 : List Node
case_13 =
    Def 1 None 5
    ∷ Final (codes "x") (Some 2)
    ∷ Call 3 (codes "get") (4 ∷ [])
    ∷ Noun (codes "nullOk")
    ∷ Noun (codes "int")
    ∷ Lit (literal.Text (codes "a"))
    ∷ []

unfoldable pub case_14 : List Node
case_14 =
    Sequence (1 ∷ 7 ∷ [])
    ∷ Def 2 None 6
    ∷ Final (codes "x") (Some 3)
    ∷ Call 4 (codes "get") (5 ∷ [])
    ∷ Noun (codes "nullOk")
    ∷ Noun (codes "void")
    ∷ Lit (literal.Text (codes "a"))
    ∷ Noun (codes "x")
    ∷ []

unfoldable pub case_15 : List Node
case_15 =
    Def 1 None 3
    ∷ Final (codes "x") (Some 2)
    ∷ Noun (codes "nullOk")
    ∷ Noun (codes "null")
    ∷ []

unfoldable pub case_16 : List Node
case_16 =
    Def 1 None 3
    ∷ Final (codes "x") (Some 2)
    ∷ Noun (codes "nullOk")
    ∷ Lit (literal.Int (pos 1))
    ∷ []

unfoldable pub case_17 : List Node
case_17 =
    Call 1 (codes "get") (2 ∷ [])
    ∷ Noun (codes "nullOk")
    ∷ Noun (codes "nullOk")
    ∷ []

unfoldable pub case_18 : List Node
case_18 =
    Call 1 (codes "get") (2 ∷ [])
    ∷ Noun (codes "nullOk")
    ∷ Noun (codes "List")
    ∷ []

unfoldable pub case_19 : List Node
case_19 =
    Sequence (1 ∷ 7 ∷ 10 ∷ [])
    ∷ Def 2 None 5
    ∷ ListPattern (3 ∷ 4 ∷ [])
    ∷ Final (codes "p") None
    ∷ Final (codes "r") None
    ∷ Call 6 (codes "promise") []
    ∷ Noun (codes "Ref")
    ∷ Call 8 (codes "resolve") (9 ∷ [])
    ∷ Noun (codes "r")
    ∷ Lit (literal.Int (pos 5))
    ∷ Def 11 None 12
    ∷ Final (codes "x") None
    ∷ Noun (codes "p")
    ∷ []

unfoldable pub case_20 : List Node
case_20 =
    Sequence (1 ∷ 7 ∷ 10 ∷ 14 ∷ [])
    ∷ Def 2 None 5
    ∷ ListPattern (3 ∷ 4 ∷ [])
    ∷ Final (codes "p") None
    ∷ Final (codes "r") None
    ∷ Call 6 (codes "promise") []
    ∷ Noun (codes "Ref")
    ∷ Call 8 (codes "resolve") (9 ∷ [])
    ∷ Noun (codes "r")
    ∷ Lit (literal.Int (pos 5))
    ∷ Def 11 None 13
    ∷ Final (codes "x") (Some 12)
    ∷ Noun (codes "int")
    ∷ Noun (codes "p")
    ∷ Call 15 (codes "run") (16 ∷ [])
    ∷ Noun (codes "__makeList")
    ∷ Noun (codes "x")
    ∷ []

unfoldable pub case_21 : List Node
case_21 =
    Def 1 None 4
    ∷ ListPattern (2 ∷ 3 ∷ [])
    ∷ Final (codes "x") None
    ∷ Final (codes "y") None
    ∷ Call 5 (codes "run") (6 ∷ [])
    ∷ Noun (codes "__makeList")
    ∷ Lit (literal.Int (pos 1))
    ∷ []

unfoldable pub case_22 : List Node
case_22 =
    Sequence (1 ∷ 9 ∷ [])
    ∷ Def 2 None 5
    ∷ ListPattern (3 ∷ 4 ∷ [])
    ∷ Final (codes "x") None
    ∷ Final (codes "y") None
    ∷ Call 6 (codes "run") (7 ∷ 8 ∷ [])
    ∷ Noun (codes "__makeList")
    ∷ Lit (literal.Int (pos 1))
    ∷ Lit (literal.Int (pos 2))
    ∷ Noun (codes "y")
    ∷ []

unfoldable pub case_23 : List Node
case_23 =
    Sequence (1 ∷ 6 ∷ [])
    ∷ MatchBind 2 3
    ∷ Lit (literal.Int (pos 5))
    ∷ ListPattern (4 ∷ 5 ∷ [])
    ∷ Final (codes "a") None
    ∷ Var (codes "b") None
    ∷ Noun (codes "a")
    ∷ []

unfoldable pub case_24 : List Node
case_24 =
    MatchBind 1 2
    ∷ Lit (literal.Int (pos 5))
    ∷ Final (codes "a") None
    ∷ []

unfoldable pub case_25 : List Node
case_25 =
    MatchBind 1 2
    ∷ Lit (literal.Int (pos 5))
    ∷ Final (codes "a") (Some 3)
    ∷ Noun (codes "String")
    ∷ []

unfoldable pub case_26 : List Node
case_26 =
    Sequence (1 ∷ 9 ∷ 13 ∷ [])
    ∷ Object 2 [] (3 ∷ [])
    ∷ Final (codes "g") None
    ∷ Method (codes "coerce") (4 ∷ 5 ∷ []) 6
    ∷ Final (codes "s") None
    ∷ Final (codes "e") None
    ∷ Call 7 (codes "add") (8 ∷ [])
    ∷ Noun (codes "s")
    ∷ Lit (literal.Int (pos 1))
    ∷ Def 10 None 12
    ∷ Final (codes "x") (Some 11)
    ∷ Noun (codes "g")
    ∷ Lit (literal.Int (pos 4))
    ∷ Noun (codes "x")
    ∷ []

unfoldable pub case_27 : List Node
case_27 =
    Sequence (1 ∷ 7 ∷ 12 ∷ [])
    ∷ Object 2 [] (3 ∷ [])
    ∷ Final (codes "g") None
    ∷ Method (codes "run") (4 ∷ 5 ∷ []) 6
    ∷ Final (codes "s") None
    ∷ Final (codes "e") None
    ∷ Noun (codes "e")
    ∷ Def 8 None 11
    ∷ Via 9 10
    ∷ Noun (codes "g")
    ∷ Final (codes "x") None
    ∷ Lit (literal.Int (pos 4))
    ∷ Noun (codes "x")
    ∷ []

unfoldable pub case_28 : List Node
case_28 =
    If 1 2 3
    ∷ Lit (literal.Int (pos 1))
    ∷ Lit (literal.Int (pos 2))
    ∷ Lit (literal.Int (pos 3))
    ∷ []

unfoldable pub case_29 : List Node
case_29 =
    If 1 2 3
    ∷ Noun (codes "false")
    ∷ Lit (literal.Int (pos 2))
    ∷ Lit (literal.Int (pos 3))
    ∷ []

unfoldable pub case_30 : List Node
case_30 =
    Try 1 4 5
    ∷ Call 2 (codes "run") (3 ∷ [])
    ∷ Noun (codes "throw")
    ∷ Lit (literal.Text (codes "x"))
    ∷ Final (codes "e") None
    ∷ Noun (codes "e")
    ∷ []

unfoldable pub case_31 : List Node
case_31 =
    Hide 1
    ∷ Call 2 (codes "run") (3 ∷ [])
    ∷ Noun (codes "throw")
    ∷ Lit (literal.Int (pos 5))
    ∷ []

unfoldable pub case_32 : List Node
case_32 =
    Finally 1 4
    ∷ Call 2 (codes "run") (3 ∷ [])
    ∷ Noun (codes "throw")
    ∷ Lit (literal.Text (codes "x"))
    ∷ Call 5 (codes "run") (6 ∷ [])
    ∷ Noun (codes "throw")
    ∷ Lit (literal.Text (codes "y"))
    ∷ []

unfoldable pub case_33 : List Node
case_33 =
    Call 1 (codes "coerce") (2 ∷ 3 ∷ [])
    ∷ Noun (codes "int")
    ∷ Lit (literal.Int (pos 3))
    ∷ Noun (codes "null")
    ∷ []

unfoldable pub case_34 : List Node
case_34 =
    Escape 1 2 None
    ∷ Final (codes "ej") None
    ∷ Call 3 (codes "coerce") (4 ∷ 5 ∷ [])
    ∷ Noun (codes "char")
    ∷ Lit (literal.Int (pos 3))
    ∷ Noun (codes "ej")
    ∷ []

unfoldable pub case_35 : List Node
case_35 =
    Def 1 None 3
    ∷ Final (codes "x") (Some 2)
    ∷ Noun (codes "DeepFrozen")
    ∷ Call 4 (codes "run") (5 ∷ 6 ∷ [])
    ∷ Noun (codes "__makeList")
    ∷ Lit (literal.Int (pos 1))
    ∷ Call 7 (codes "run") (8 ∷ [])
    ∷ Noun (codes "__makeList")
    ∷ Lit (literal.Text (codes "a"))
    ∷ []

unfoldable pub case_36 : List Node
case_36 =
    Sequence (1 ∷ 3 ∷ [])
    ∷ Object 2 [] []
    ∷ Final (codes "o") None
    ∷ Def 4 None 6
    ∷ Final (codes "x") (Some 5)
    ∷ Noun (codes "DeepFrozen")
    ∷ Call 7 (codes "run") (8 ∷ [])
    ∷ Noun (codes "__makeList")
    ∷ Noun (codes "o")
    ∷ []

unfoldable pub case_37 : List Node
case_37 =
    Sequence (1 ∷ 3 ∷ 7 ∷ [])
    ∷ Object 2 [] []
    ∷ Final (codes "o") None
    ∷ Def 4 None 6
    ∷ Final (codes "x") (Some 5)
    ∷ Noun (codes "near")
    ∷ Noun (codes "o")
    ∷ Noun (codes "x")
    ∷ []

unfoldable pub case_38 : List Node
case_38 =
    Sequence (1 ∷ 7 ∷ [])
    ∷ Def 2 None 5
    ∷ ListPattern (3 ∷ 4 ∷ [])
    ∷ Final (codes "p") None
    ∷ Final (codes "r") None
    ∷ Call 6 (codes "promise") []
    ∷ Noun (codes "Ref")
    ∷ Def 8 None 10
    ∷ Final (codes "x") (Some 9)
    ∷ Noun (codes "near")
    ∷ Noun (codes "p")
    ∷ []

-- the trees are those of these forms
abbrev pub GuardsRead : Type 0
GuardsRead =
    (read (codes "(escape (final ej) (finally (call (noun ej) run (lit 1)) (call (noun ej) run (lit 2))))") ≡ Ok case_0)
    × (read (codes "(escape (final ej) (call (noun ej) run))") ≡ Ok case_1)
    × (read (codes "(escape (final ej) (call (noun ej) run (lit 1)) (final x) (call (noun x) add (lit 1)))") ≡ Ok case_2)
    × (read (codes "(escape (final ej) (try (call (noun ej) run (lit 1)) (any) (lit 3)))") ≡ Ok case_3)
    × (read (codes "(escape (final ej) (call (noun ej) run (lit 1) (lit 2)))") ≡ Ok case_4)
    × (read (codes "(seq (def (var x (noun int)) (lit 1)) (set x (lit 5)))") ≡ Ok case_5)
    × (read (codes "(seq (def (var x (noun int)) (lit 1)) (set x (lit \"a\")))") ≡ Ok case_6)
    × (read (codes "(seq (def (var x (noun void)) (lit 1)) (set x (lit 5)))") ≡ Ok case_7)
    × (read (codes "(def (final x (noun void)) (lit 5))") ≡ Ok case_8)
    × (read (codes "(seq (def (final x (noun void)) (lit 5)) (noun x))") ≡ Ok case_9)
    × (read (codes "(def (final x (noun int)) exit (noun null) (lit \"a\"))") ≡ Ok case_10)
    × (read (codes "(def (final x (noun int)) exit (lit 5) (lit \"a\"))") ≡ Ok case_11)
    × (read (codes "(def (final x (lit 5)) (lit \"a\"))") ≡ Ok case_12)
    × (read (codes "(def (final x (call (noun nullOk) get (noun int))) (lit \"a\"))") ≡ Ok case_13)
    × (read (codes "(seq (def (final x (call (noun nullOk) get (noun void))) (lit \"a\")) (noun x))") ≡ Ok case_14)
    × (read (codes "(def (final x (noun nullOk)) (noun null))") ≡ Ok case_15)
    × (read (codes "(def (final x (noun nullOk)) (lit 1))") ≡ Ok case_16)
    × (read (codes "(call (noun nullOk) get (noun nullOk))") ≡ Ok case_17)
    × (read (codes "(call (noun nullOk) get (noun List))") ≡ Ok case_18)
    × (read (codes "(seq (def (list (final p) (final r)) (call (noun Ref) promise)) (call (noun r) resolve (lit 5)) (def (final x) (noun p)))") ≡ Ok case_19)
    × (read (codes "(seq (def (list (final p) (final r)) (call (noun Ref) promise)) (call (noun r) resolve (lit 5)) (def (final x (noun int)) (noun p)) (call (noun __makeList) run (noun x)))") ≡ Ok case_20)
    × (read (codes "(def (list (final x) (final y)) (call (noun __makeList) run (lit 1)))") ≡ Ok case_21)
    × (read (codes "(seq (def (list (final x) (final y)) (call (noun __makeList) run (lit 1) (lit 2))) (noun y))") ≡ Ok case_22)
    × (read (codes "(seq (match (lit 5) (list (final a) (var b))) (noun a))") ≡ Ok case_23)
    × (read (codes "(match (lit 5) (final a))") ≡ Ok case_24)
    × (read (codes "(match (lit 5) (final a (noun String)))") ≡ Ok case_25)
    × (read (codes "(seq (object (final g) () (method coerce ((final s) (final e)) (call (noun s) add (lit 1)))) (def (final x (noun g)) (lit 4)) (noun x))") ≡ Ok case_26)
    × (read (codes "(seq (object (final g) () (method run ((final s) (final e)) (noun e))) (def (via (noun g) (final x)) (lit 4)) (noun x))") ≡ Ok case_27)
    × (read (codes "(if (lit 1) (lit 2) (lit 3))") ≡ Ok case_28)
    × (read (codes "(if (noun false) (lit 2) (lit 3))") ≡ Ok case_29)
    × (read (codes "(try (call (noun throw) run (lit \"x\")) (final e) (noun e))") ≡ Ok case_30)
    × (read (codes "(hide (call (noun throw) run (lit 5)))") ≡ Ok case_31)
    × (read (codes "(finally (call (noun throw) run (lit \"x\")) (call (noun throw) run (lit \"y\")))") ≡ Ok case_32)
    × (read (codes "(call (noun int) coerce (lit 3) (noun null))") ≡ Ok case_33)
    × (read (codes "(escape (final ej) (call (noun char) coerce (lit 3) (noun ej)))") ≡ Ok case_34)
    × (read (codes "(def (final x (noun DeepFrozen)) (call (noun __makeList) run (lit 1) (call (noun __makeList) run (lit \"a\"))))") ≡ Ok case_35)
    × (read (codes "(seq (object (final o) ()) (def (final x (noun DeepFrozen)) (call (noun __makeList) run (noun o))))") ≡ Ok case_36)
    × (read (codes "(seq (object (final o) ()) (def (final x (noun near)) (noun o)) (noun x))") ≡ Ok case_37)
    × (read (codes "(seq (def (list (final p) (final r)) (call (noun Ref) promise)) (def (final x (noun near)) (noun p)))") ≡ Ok case_38)

-- how each ends
abbrev pub GuardsHold : Type 0
GuardsHold =
    (ending_of case_0 ≡ codes "settle @a 2")
    × (ending_of case_1 ≡ codes "settle @a null")
    × (ending_of case_2 ≡ codes "settle @a 2")
    × (ending_of case_3 ≡ codes "settle @a 1")
    × (ending_of case_4 ≡ codes "settle @a broken:\"no method\"")
    × (ending_of case_5 ≡ codes "settle @a 5")
    × (ending_of case_6 ≡ codes "settle @a broken:\"not int\"")
    × (ending_of case_7 ≡ codes "settle @a null")
    × (ending_of case_8 ≡ codes "settle @a 5")
    × (ending_of case_9 ≡ codes "settle @a null")
    × (ending_of case_10 ≡ codes "settle @a broken:\"not int\"")
    × (ending_of case_11 ≡ codes "settle @a broken:\"no method\"")
    × (ending_of case_12 ≡ codes "settle @a broken:\"not a guard\"")
    × (ending_of case_13 ≡ codes "settle @a broken:\"not nullOk:int\"")
    × (ending_of case_14 ≡ codes "settle @a null")
    × (ending_of case_15 ≡ codes "settle @a null")
    × (ending_of case_16 ≡ codes "settle @a broken:\"not nullOk\"")
    × (ending_of case_17 ≡ codes "settle @a broken:\"bad argument\"")
    × (ending_of case_18 ≡ codes "settle @a <nullOk:List>")
    × (ending_of case_19 ≡ codes "settle @a 5")
    × (ending_of case_20 ≡ codes "settle @a a%1")
    × (ending_of case_21 ≡ codes "settle @a broken:\"not a list\"")
    × (ending_of case_22 ≡ codes "settle @a 2")
    × (ending_of case_23 ≡ codes "settle @a broken:\"no match\"")
    × (ending_of case_24 ≡ codes "settle @a true")
    × (ending_of case_25 ≡ codes "settle @a false")
    × (ending_of case_26 ≡ codes "settle @a 5")
    × (ending_of case_27 ≡ codes "settle @a null")
    × (ending_of case_28 ≡ codes "settle @a broken:\"not boolean\"")
    × (ending_of case_29 ≡ codes "settle @a 3")
    × (ending_of case_30 ≡ codes "settle @a \"x\"")
    × (ending_of case_31 ≡ codes "settle @a broken:\"not a text\"")
    × (ending_of case_32 ≡ codes "settle @a broken:\"y\"")
    × (ending_of case_33 ≡ codes "settle @a 3")
    × (ending_of case_34 ≡ codes "settle @a \"not char\"")
    × (ending_of case_35 ≡ codes "settle @a a%1")
    × (ending_of case_36 ≡ codes "settle @a broken:\"not DeepFrozen\"")
    × (ending_of case_37 ≡ codes "settle @a a.0")
    × (ending_of case_38 ≡ codes "settle @a broken:\"not near\"")

-- opens the definitions of this file
unfoldable pub opened_guards : Unit {0}
unfolding case_0 case_1 case_2 case_3 case_4 case_5 case_6 case_7 case_8 case_9 case_10 case_11 case_12 case_13 case_14 case_15 case_16 case_17 case_18 case_19 case_20 case_21 case_22 case_23 case_24 case_25 case_26 case_27 case_28 case_29 case_30 case_31 case_32 case_33 case_34 case_35 case_36 case_37 case_38
opened_guards = tt
