-- What data and primitives answer.
use Rattle.std.specs.Prelude.{◌≡◌, pos, List, [], ◌∷◌, None, Ok, codes}
use Rattle.def_kernel.specs.Reading.{read}
use Rattle.test_machine.specs.Endings.{ending_of}
use Rattle.def_kernel.specs.declared.node.Literal.TheVariants as literal
use Rattle.def_kernel.specs.declared.node.Node.{Node}
use Rattle.def_kernel.specs.declared.node.Node.TheVariants.{Lit, Noun, Set, Def, Call, Sequence, Object, Method, Final, Var, Any, ListPattern}

unfoldable pub case_0 : List Node
case_0 =
    Call 1 (codes "pow") (2 ∷ [])
    ∷ Lit (literal.Int (pos 2))
    ∷ Lit (literal.Int (pos 10))
    ∷ []

unfoldable pub case_1 : List Node
case_1 =
    Call 1 (codes "pow") (2 ∷ [])
    ∷ Lit (literal.Int (pos 2))
    ∷ Call 3 (codes "negate") []
    ∷ Lit (literal.Int (pos 1))
    ∷ []

unfoldable pub case_2 : List Node
case_2 =
    Call 1 (codes "floorDivide") (2 ∷ [])
    ∷ Lit (literal.Int (pos 7))
    ∷ Call 3 (codes "negate") []
    ∷ Lit (literal.Int (pos 2))
    ∷ []

unfoldable pub case_3 : List Node
case_3 =
    Call 1 (codes "remainder") (3 ∷ [])
    ∷ Call 2 (codes "negate") []
    ∷ Lit (literal.Int (pos 7))
    ∷ Lit (literal.Int (pos 2))
    ∷ []

unfoldable pub case_4 : List Node
case_4 =
    Call 1 (codes "mod") (3 ∷ [])
    ∷ Call 2 (codes "negate") []
    ∷ Lit (literal.Int (pos 7))
    ∷ Lit (literal.Int (pos 2))
    ∷ []

unfoldable pub case_5 : List Node
case_5 =
    Call 1 (codes "mod") (2 ∷ [])
    ∷ Lit (literal.Int (pos 1))
    ∷ Lit (literal.Int (pos 0))
    ∷ []

unfoldable pub case_6 : List Node
case_6 =
    Call 1 (codes "xor") (2 ∷ [])
    ∷ Lit (literal.Int (pos 12))
    ∷ Lit (literal.Int (pos 10))
    ∷ []

unfoldable pub case_7 : List Node
case_7 =
    Call 1 (codes "and") (3 ∷ [])
    ∷ Call 2 (codes "negate") []
    ∷ Lit (literal.Int (pos 1))
    ∷ Lit (literal.Int (pos 255))
    ∷ []

unfoldable pub case_8 : List Node
case_8 =
    Call 1 (codes "asChar") []
    ∷ Lit (literal.Int (pos 97))
    ∷ []

unfoldable pub case_9 : List Node
case_9 =
    Call 1 (codes "asChar") []
    ∷ Lit (literal.Int (pos 55296))
    ∷ []

unfoldable pub case_10 : List Node
case_10 =
    Call 1 (codes "add") (2 ∷ [])
    ∷ Lit (literal.Int (pos 1))
    ∷ Lit (literal.Text (codes "a"))
    ∷ []

unfoldable pub case_11 : List Node
case_11 =
    Call 1 (codes "zip") []
    ∷ Lit (literal.Int (pos 1))
    ∷ []

unfoldable pub case_12 : List Node
case_12 =
    Call 1 (codes "xor") (2 ∷ [])
    ∷ Noun (codes "true")
    ∷ Noun (codes "true")
    ∷ []

unfoldable pub case_13 : List Node
case_13 =
    Call 1 (codes "and") (2 ∷ [])
    ∷ Noun (codes "true")
    ∷ Lit (literal.Int (pos 1))
    ∷ []

unfoldable pub case_14 : List Node
case_14 =
    Call 1 (codes "asInteger") []
    ∷ Lit (literal.Char 97)
    ∷ []

unfoldable pub case_15 : List Node
case_15 =
    Call 1 (codes "size") []
    ∷ Lit (literal.Text (codes "abc"))
    ∷ []

unfoldable pub case_16 : List Node
case_16 =
    Call 1 (codes "get") (2 ∷ [])
    ∷ Lit (literal.Text (codes "abc"))
    ∷ Lit (literal.Int (pos 1))
    ∷ []

unfoldable pub case_17 : List Node
case_17 =
    Call 1 (codes "get") (2 ∷ [])
    ∷ Lit (literal.Text (codes "abc"))
    ∷ Lit (literal.Int (pos 3))
    ∷ []

unfoldable pub case_18 : List Node
case_18 =
    Call 1 (codes "get") (2 ∷ [])
    ∷ Lit (literal.Text (codes "abc"))
    ∷ Lit (literal.Text (codes "x"))
    ∷ []

unfoldable pub case_19 : List Node
case_19 =
    Call 1 (codes "run") (2 ∷ 3 ∷ [])
    ∷ Lit (literal.Text (codes "abcd"))
    ∷ Lit (literal.Int (pos 1))
    ∷ Lit (literal.Int (pos 3))
    ∷ []

unfoldable pub case_20 : List Node
case_20 =
    Call 1 (codes "run") (2 ∷ 3 ∷ [])
    ∷ Lit (literal.Text (codes "abcd"))
    ∷ Lit (literal.Int (pos 3))
    ∷ Lit (literal.Int (pos 1))
    ∷ []

unfoldable pub case_21 : List Node
case_21 =
    Call 1 (codes "add") (2 ∷ [])
    ∷ Lit (literal.Text (codes "a"))
    ∷ Lit (literal.Int (pos 1))
    ∷ []

unfoldable pub case_22 : List Node
case_22 =
    Call 1 (codes "add") (2 ∷ [])
    ∷ Lit (literal.Text (codes "a"))
    ∷ Lit (literal.Char 98)
    ∷ []

unfoldable pub case_23 : List Node
case_23 =
    Call 1 (codes "add") (2 ∷ [])
    ∷ Lit (literal.Text (codes "a"))
    ∷ Noun (codes "null")
    ∷ []

unfoldable pub case_24 : List Node
case_24 =
    Call 1 (codes "add") (2 ∷ [])
    ∷ Lit (literal.Text (codes "a"))
    ∷ Call 3 (codes "run") []
    ∷ Noun (codes "__makeList")
    ∷ []

unfoldable pub case_25 : List Node
case_25 =
    Call 1 (codes "size") []
    ∷ Call 2 (codes "run") (3 ∷ 4 ∷ [])
    ∷ Noun (codes "__makeList")
    ∷ Lit (literal.Int (pos 1))
    ∷ Lit (literal.Int (pos 2))
    ∷ []

unfoldable pub case_26 : List Node
case_26 =
    Call 1 (codes "get") (5 ∷ [])
    ∷ Call 2 (codes "run") (3 ∷ 4 ∷ [])
    ∷ Noun (codes "__makeList")
    ∷ Lit (literal.Int (pos 1))
    ∷ Lit (literal.Int (pos 2))
    ∷ Lit (literal.Int (pos 1))
    ∷ []

unfoldable pub case_27 : List Node
case_27 =
    Call 1 (codes "get") (7 ∷ [])
    ∷ Call 2 (codes "with") (6 ∷ [])
    ∷ Call 3 (codes "run") (4 ∷ 5 ∷ [])
    ∷ Noun (codes "__makeList")
    ∷ Lit (literal.Int (pos 1))
    ∷ Lit (literal.Int (pos 2))
    ∷ Lit (literal.Int (pos 3))
    ∷ Lit (literal.Int (pos 2))
    ∷ []

unfoldable pub case_28 : List Node
case_28 =
    Call 1 (codes "size") []
    ∷ Call 2 (codes "add") (6 ∷ [])
    ∷ Call 3 (codes "run") (4 ∷ 5 ∷ [])
    ∷ Noun (codes "__makeList")
    ∷ Lit (literal.Int (pos 1))
    ∷ Lit (literal.Int (pos 2))
    ∷ Call 7 (codes "run") (8 ∷ [])
    ∷ Noun (codes "__makeList")
    ∷ Lit (literal.Int (pos 4))
    ∷ []

unfoldable pub case_29 : List Node
case_29 =
    Call 1 (codes "add") (4 ∷ [])
    ∷ Call 2 (codes "run") (3 ∷ [])
    ∷ Noun (codes "__makeList")
    ∷ Lit (literal.Int (pos 1))
    ∷ Lit (literal.Int (pos 1))
    ∷ []

unfoldable pub case_30 : List Node
case_30 =
    Call 1 (codes "get") (9 ∷ [])
    ∷ Call 2 (codes "run") (7 ∷ 8 ∷ [])
    ∷ Call 3 (codes "run") (4 ∷ 5 ∷ 6 ∷ [])
    ∷ Noun (codes "__makeList")
    ∷ Lit (literal.Int (pos 1))
    ∷ Lit (literal.Int (pos 2))
    ∷ Lit (literal.Int (pos 3))
    ∷ Lit (literal.Int (pos 1))
    ∷ Lit (literal.Int (pos 3))
    ∷ Lit (literal.Int (pos 0))
    ∷ []

unfoldable pub case_31 : List Node
case_31 =
    Call 1 (codes "size") []
    ∷ Call 2 (codes "through") (3 ∷ 4 ∷ [])
    ∷ Noun (codes "__makeList")
    ∷ Lit (literal.Int (pos 1))
    ∷ Lit (literal.Int (pos 3))
    ∷ []

unfoldable pub case_32 : List Node
case_32 =
    Call 1 (codes "size") []
    ∷ Call 2 (codes "till") (3 ∷ 4 ∷ [])
    ∷ Noun (codes "__makeList")
    ∷ Lit (literal.Int (pos 1))
    ∷ Lit (literal.Int (pos 3))
    ∷ []

unfoldable pub case_33 : List Node
case_33 =
    Call 1 (codes "size") []
    ∷ Call 2 (codes "through") (3 ∷ 4 ∷ [])
    ∷ Noun (codes "__makeList")
    ∷ Lit (literal.Int (pos 3))
    ∷ Lit (literal.Int (pos 1))
    ∷ []

unfoldable pub case_34 : List Node
case_34 =
    Call 1 (codes "through") (2 ∷ 3 ∷ [])
    ∷ Noun (codes "__makeList")
    ∷ Lit (literal.Int (pos 1))
    ∷ Lit (literal.Int (pos 65536))
    ∷ []

unfoldable pub case_35 : List Node
case_35 =
    Call 1 (codes "till") (2 ∷ 3 ∷ [])
    ∷ Noun (codes "__makeList")
    ∷ Lit (literal.Text (codes "a"))
    ∷ Lit (literal.Int (pos 65536))
    ∷ []

unfoldable pub case_36 : List Node
case_36 =
    Call 1 (codes "lessThan") (2 ∷ 3 ∷ [])
    ∷ Noun (codes "__comparer")
    ∷ Lit (literal.Text (codes "a"))
    ∷ Lit (literal.Text (codes "ab"))
    ∷ []

unfoldable pub case_37 : List Node
case_37 =
    Call 1 (codes "geq") (2 ∷ 3 ∷ [])
    ∷ Noun (codes "__comparer")
    ∷ Lit (literal.Char 97)
    ∷ Lit (literal.Char 98)
    ∷ []

unfoldable pub case_38 : List Node
case_38 =
    Call 1 (codes "asBigAs") (2 ∷ 3 ∷ [])
    ∷ Noun (codes "__comparer")
    ∷ Lit (literal.Int (pos 3))
    ∷ Lit (literal.Int (pos 3))
    ∷ []

unfoldable pub case_39 : List Node
case_39 =
    Call 1 (codes "lessThan") (2 ∷ 3 ∷ [])
    ∷ Noun (codes "__comparer")
    ∷ Lit (literal.Int (pos 1))
    ∷ Lit (literal.Char 97)
    ∷ []

unfoldable pub case_40 : List Node
case_40 =
    Call 1 (codes "sameEver") (2 ∷ 8 ∷ [])
    ∷ Noun (codes "__equalizer")
    ∷ Call 3 (codes "run") (4 ∷ 5 ∷ [])
    ∷ Noun (codes "__makeList")
    ∷ Lit (literal.Int (pos 1))
    ∷ Call 6 (codes "run") (7 ∷ [])
    ∷ Noun (codes "__makeList")
    ∷ Lit (literal.Text (codes "a"))
    ∷ Call 9 (codes "run") (10 ∷ 11 ∷ [])
    ∷ Noun (codes "__makeList")
    ∷ Lit (literal.Int (pos 1))
    ∷ Call 12 (codes "run") (13 ∷ [])
    ∷ Noun (codes "__makeList")
    ∷ Lit (literal.Text (codes "a"))
    ∷ []

unfoldable pub case_41 : List Node
case_41 =
    Call 1 (codes "sameEver") (2 ∷ 5 ∷ [])
    ∷ Noun (codes "__equalizer")
    ∷ Call 3 (codes "run") (4 ∷ [])
    ∷ Noun (codes "__makeList")
    ∷ Lit (literal.Int (pos 1))
    ∷ Call 6 (codes "run") (7 ∷ 8 ∷ [])
    ∷ Noun (codes "__makeList")
    ∷ Lit (literal.Int (pos 1))
    ∷ Lit (literal.Int (pos 2))
    ∷ []

unfoldable pub case_42 : List Node
case_42 =
    Call 1 (codes "sameEver") (2 ∷ 5 ∷ [])
    ∷ Noun (codes "__equalizer")
    ∷ Call 3 (codes "broken") (4 ∷ [])
    ∷ Noun (codes "Ref")
    ∷ Lit (literal.Text (codes "x"))
    ∷ Call 6 (codes "broken") (7 ∷ [])
    ∷ Noun (codes "Ref")
    ∷ Lit (literal.Text (codes "x"))
    ∷ []

unfoldable pub case_43 : List Node
case_43 =
    Sequence (1 ∷ 7 ∷ [])
    ∷ Def 2 None 5
    ∷ ListPattern (3 ∷ 4 ∷ [])
    ∷ Final (codes "p") None
    ∷ Final (codes "r") None
    ∷ Call 6 (codes "promise") []
    ∷ Noun (codes "Ref")
    ∷ Call 8 (codes "sameEver") (9 ∷ 10 ∷ [])
    ∷ Noun (codes "__equalizer")
    ∷ Noun (codes "p")
    ∷ Noun (codes "p")
    ∷ []

unfoldable pub case_44 : List Node
case_44 =
    Call 1 (codes "call") (2 ∷ 3 ∷ 4 ∷ [])
    ∷ Noun (codes "E")
    ∷ Lit (literal.Int (pos 1))
    ∷ Lit (literal.Text (codes "add"))
    ∷ Call 5 (codes "run") (6 ∷ [])
    ∷ Noun (codes "__makeList")
    ∷ Lit (literal.Int (pos 2))
    ∷ []

unfoldable pub case_45 : List Node
case_45 =
    Call 1 (codes "call") (2 ∷ 3 ∷ 4 ∷ [])
    ∷ Noun (codes "E")
    ∷ Noun (codes "E")
    ∷ Lit (literal.Text (codes "call"))
    ∷ Call 5 (codes "run") (6 ∷ 7 ∷ 8 ∷ [])
    ∷ Noun (codes "__makeList")
    ∷ Lit (literal.Int (pos 1))
    ∷ Lit (literal.Text (codes "add"))
    ∷ Call 9 (codes "run") (10 ∷ [])
    ∷ Noun (codes "__makeList")
    ∷ Lit (literal.Int (pos 2))
    ∷ []

unfoldable pub case_46 : List Node
case_46 =
    Call 1 (codes "call") (2 ∷ 3 ∷ 4 ∷ [])
    ∷ Noun (codes "E")
    ∷ Lit (literal.Int (pos 1))
    ∷ Lit (literal.Int (pos 2))
    ∷ Call 5 (codes "run") []
    ∷ Noun (codes "__makeList")
    ∷ []

unfoldable pub case_47 : List Node
case_47 =
    Call 1 (codes "run") (2 ∷ [])
    ∷ Noun (codes "__loop")
    ∷ Object 3 [] (4 ∷ [])
    ∷ Any None
    ∷ Method (codes "run") [] 5
    ∷ Noun (codes "false")
    ∷ []

unfoldable pub case_48 : List Node
case_48 =
    Call 1 (codes "run") (2 ∷ [])
    ∷ Noun (codes "__loop")
    ∷ Object 3 [] (4 ∷ [])
    ∷ Any None
    ∷ Method (codes "run") [] 5
    ∷ Noun (codes "null")
    ∷ []

unfoldable pub case_49 : List Node
case_49 =
    Sequence (1 ∷ 4 ∷ 22 ∷ [])
    ∷ Def 2 None 3
    ∷ Var (codes "s") None
    ∷ Lit (literal.Int (pos 0))
    ∷ Call 5 (codes "iterate") (9 ∷ [])
    ∷ Call 6 (codes "run") (7 ∷ 8 ∷ [])
    ∷ Noun (codes "__makeList")
    ∷ Lit (literal.Int (pos 5))
    ∷ Lit (literal.Int (pos 6))
    ∷ Object 10 [] (11 ∷ [])
    ∷ Any None
    ∷ Method (codes "run") (12 ∷ 13 ∷ []) 14
    ∷ Final (codes "k") None
    ∷ Final (codes "v") None
    ∷ Set (codes "s") 15
    ∷ Call 16 (codes "add") (19 ∷ [])
    ∷ Call 17 (codes "multiply") (18 ∷ [])
    ∷ Noun (codes "s")
    ∷ Lit (literal.Int (pos 10))
    ∷ Call 20 (codes "add") (21 ∷ [])
    ∷ Noun (codes "k")
    ∷ Noun (codes "v")
    ∷ Noun (codes "s")
    ∷ []

unfoldable pub case_50 : List Node
case_50 =
    Call 1 (codes "iterate") (2 ∷ [])
    ∷ Lit (literal.Text (codes "ab"))
    ∷ Object 3 [] (4 ∷ [])
    ∷ Any None
    ∷ Method (codes "run") (5 ∷ 6 ∷ []) 7
    ∷ Final (codes "k") None
    ∷ Final (codes "v") None
    ∷ Noun (codes "v")
    ∷ []

-- the trees are those of these forms
abbrev pub NativesRead : Type 0
NativesRead =
    (read (codes "(call (lit 2) pow (lit 10))") ≡ Ok case_0)
    × (read (codes "(call (lit 2) pow (call (lit 1) negate))") ≡ Ok case_1)
    × (read (codes "(call (lit 7) floorDivide (call (lit 2) negate))") ≡ Ok case_2)
    × (read (codes "(call (call (lit 7) negate) remainder (lit 2))") ≡ Ok case_3)
    × (read (codes "(call (call (lit 7) negate) mod (lit 2))") ≡ Ok case_4)
    × (read (codes "(call (lit 1) mod (lit 0))") ≡ Ok case_5)
    × (read (codes "(call (lit 12) xor (lit 10))") ≡ Ok case_6)
    × (read (codes "(call (call (lit 1) negate) and (lit 255))") ≡ Ok case_7)
    × (read (codes "(call (lit 97) asChar)") ≡ Ok case_8)
    × (read (codes "(call (lit 55296) asChar)") ≡ Ok case_9)
    × (read (codes "(call (lit 1) add (lit \"a\"))") ≡ Ok case_10)
    × (read (codes "(call (lit 1) zip)") ≡ Ok case_11)
    × (read (codes "(call (noun true) xor (noun true))") ≡ Ok case_12)
    × (read (codes "(call (noun true) and (lit 1))") ≡ Ok case_13)
    × (read (codes "(call (lit 'a') asInteger)") ≡ Ok case_14)
    × (read (codes "(call (lit \"abc\") size)") ≡ Ok case_15)
    × (read (codes "(call (lit \"abc\") get (lit 1))") ≡ Ok case_16)
    × (read (codes "(call (lit \"abc\") get (lit 3))") ≡ Ok case_17)
    × (read (codes "(call (lit \"abc\") get (lit \"x\"))") ≡ Ok case_18)
    × (read (codes "(call (lit \"abcd\") run (lit 1) (lit 3))") ≡ Ok case_19)
    × (read (codes "(call (lit \"abcd\") run (lit 3) (lit 1))") ≡ Ok case_20)
    × (read (codes "(call (lit \"a\") add (lit 1))") ≡ Ok case_21)
    × (read (codes "(call (lit \"a\") add (lit 'b'))") ≡ Ok case_22)
    × (read (codes "(call (lit \"a\") add (noun null))") ≡ Ok case_23)
    × (read (codes "(call (lit \"a\") add (call (noun __makeList) run))") ≡ Ok case_24)
    × (read (codes "(call (call (noun __makeList) run (lit 1) (lit 2)) size)") ≡ Ok case_25)
    × (read (codes "(call (call (noun __makeList) run (lit 1) (lit 2)) get (lit 1))") ≡ Ok case_26)
    × (read (codes "(call (call (call (noun __makeList) run (lit 1) (lit 2)) with (lit 3)) get (lit 2))") ≡ Ok case_27)
    × (read (codes "(call (call (call (noun __makeList) run (lit 1) (lit 2)) add (call (noun __makeList) run (lit 4))) size)") ≡ Ok case_28)
    × (read (codes "(call (call (noun __makeList) run (lit 1)) add (lit 1))") ≡ Ok case_29)
    × (read (codes "(call (call (call (noun __makeList) run (lit 1) (lit 2) (lit 3)) run (lit 1) (lit 3)) get (lit 0))") ≡ Ok case_30)
    × (read (codes "(call (call (noun __makeList) through (lit 1) (lit 3)) size)") ≡ Ok case_31)
    × (read (codes "(call (call (noun __makeList) till (lit 1) (lit 3)) size)") ≡ Ok case_32)
    × (read (codes "(call (call (noun __makeList) through (lit 3) (lit 1)) size)") ≡ Ok case_33)
    × (read (codes "(call (noun __makeList) through (lit 1) (lit 65536))") ≡ Ok case_34)
    × (read (codes "(call (noun __makeList) till (lit \"a\") (lit 65536))") ≡ Ok case_35)
    × (read (codes "(call (noun __comparer) lessThan (lit \"a\") (lit \"ab\"))") ≡ Ok case_36)
    × (read (codes "(call (noun __comparer) geq (lit 'a') (lit 'b'))") ≡ Ok case_37)
    × (read (codes "(call (noun __comparer) asBigAs (lit 3) (lit 3))") ≡ Ok case_38)
    × (read (codes "(call (noun __comparer) lessThan (lit 1) (lit 'a'))") ≡ Ok case_39)
    × (read (codes "(call (noun __equalizer) sameEver (call (noun __makeList) run (lit 1) (call (noun __makeList) run (lit \"a\"))) (call (noun __makeList) run (lit 1) (call (noun __makeList) run (lit \"a\"))))") ≡ Ok case_40)
    × (read (codes "(call (noun __equalizer) sameEver (call (noun __makeList) run (lit 1)) (call (noun __makeList) run (lit 1) (lit 2)))") ≡ Ok case_41)
    × (read (codes "(call (noun __equalizer) sameEver (call (noun Ref) broken (lit \"x\")) (call (noun Ref) broken (lit \"x\")))") ≡ Ok case_42)
    × (read (codes "(seq (def (list (final p) (final r)) (call (noun Ref) promise)) (call (noun __equalizer) sameEver (noun p) (noun p)))") ≡ Ok case_43)
    × (read (codes "(call (noun E) call (lit 1) (lit \"add\") (call (noun __makeList) run (lit 2)))") ≡ Ok case_44)
    × (read (codes "(call (noun E) call (noun E) (lit \"call\") (call (noun __makeList) run (lit 1) (lit \"add\") (call (noun __makeList) run (lit 2))))") ≡ Ok case_45)
    × (read (codes "(call (noun E) call (lit 1) (lit 2) (call (noun __makeList) run))") ≡ Ok case_46)
    × (read (codes "(call (noun __loop) run (object (any) () (method run () (noun false))))") ≡ Ok case_47)
    × (read (codes "(call (noun __loop) run (object (any) () (method run () (noun null))))") ≡ Ok case_48)
    × (read (codes "(seq (def (var s) (lit 0)) (call (call (noun __makeList) run (lit 5) (lit 6)) iterate (object (any) () (method run ((final k) (final v)) (set s (call (call (noun s) multiply (lit 10)) add (call (noun k) add (noun v))))))) (noun s))") ≡ Ok case_49)
    × (read (codes "(call (lit \"ab\") iterate (object (any) () (method run ((final k) (final v)) (noun v))))") ≡ Ok case_50)

-- how each ends
abbrev pub NativesHold : Type 0
NativesHold =
    (ending_of case_0 ≡ codes "settle @a 1024")
    × (ending_of case_1 ≡ codes "settle @a broken:\"negative power\"")
    × (ending_of case_2 ≡ codes "settle @a -4")
    × (ending_of case_3 ≡ codes "settle @a -1")
    × (ending_of case_4 ≡ codes "settle @a 1")
    × (ending_of case_5 ≡ codes "settle @a broken:\"zero divisor\"")
    × (ending_of case_6 ≡ codes "settle @a 6")
    × (ending_of case_7 ≡ codes "settle @a 255")
    × (ending_of case_8 ≡ codes "settle @a 'a'")
    × (ending_of case_9 ≡ codes "settle @a broken:\"not char\"")
    × (ending_of case_10 ≡ codes "settle @a broken:\"not int\"")
    × (ending_of case_11 ≡ codes "settle @a broken:\"no method\"")
    × (ending_of case_12 ≡ codes "settle @a false")
    × (ending_of case_13 ≡ codes "settle @a broken:\"not boolean\"")
    × (ending_of case_14 ≡ codes "settle @a 97")
    × (ending_of case_15 ≡ codes "settle @a 3")
    × (ending_of case_16 ≡ codes "settle @a 'b'")
    × (ending_of case_17 ≡ codes "settle @a broken:\"out of range\"")
    × (ending_of case_18 ≡ codes "settle @a broken:\"bad argument\"")
    × (ending_of case_19 ≡ codes "settle @a \"bc\"")
    × (ending_of case_20 ≡ codes "settle @a broken:\"out of range\"")
    × (ending_of case_21 ≡ codes "settle @a \"a1\"")
    × (ending_of case_22 ≡ codes "settle @a \"ab\"")
    × (ending_of case_23 ≡ codes "settle @a \"anull\"")
    × (ending_of case_24 ≡ codes "settle @a broken:\"not String\"")
    × (ending_of case_25 ≡ codes "settle @a 2")
    × (ending_of case_26 ≡ codes "settle @a 2")
    × (ending_of case_27 ≡ codes "settle @a 3")
    × (ending_of case_28 ≡ codes "settle @a 3")
    × (ending_of case_29 ≡ codes "settle @a broken:\"not List\"")
    × (ending_of case_30 ≡ codes "settle @a 2")
    × (ending_of case_31 ≡ codes "settle @a 3")
    × (ending_of case_32 ≡ codes "settle @a 2")
    × (ending_of case_33 ≡ codes "settle @a 0")
    × (ending_of case_34 ≡ codes "settle @a broken:\"too heavy\"")
    × (ending_of case_35 ≡ codes "settle @a broken:\"not int\"")
    × (ending_of case_36 ≡ codes "settle @a true")
    × (ending_of case_37 ≡ codes "settle @a false")
    × (ending_of case_38 ≡ codes "settle @a true")
    × (ending_of case_39 ≡ codes "settle @a broken:\"not comparable\"")
    × (ending_of case_40 ≡ codes "settle @a true")
    × (ending_of case_41 ≡ codes "settle @a false")
    × (ending_of case_42 ≡ codes "settle @a true")
    × (ending_of case_43 ≡ codes "settle @a broken:\"not settled\"")
    × (ending_of case_44 ≡ codes "settle @a 3")
    × (ending_of case_45 ≡ codes "settle @a 3")
    × (ending_of case_46 ≡ codes "settle @a broken:\"bad message\"")
    × (ending_of case_47 ≡ codes "settle @a null")
    × (ending_of case_48 ≡ codes "settle @a broken:\"not boolean\"")
    × (ending_of case_49 ≡ codes "settle @a 57")
    × (ending_of case_50 ≡ codes "settle @a null")

-- opens the definitions of this file
unfoldable pub opened_natives : Unit {0}
unfolding case_0 case_1 case_2 case_3 case_4 case_5 case_6 case_7 case_8 case_9 case_10 case_11 case_12 case_13 case_14 case_15 case_16 case_17 case_18 case_19 case_20 case_21 case_22 case_23 case_24 case_25 case_26 case_27 case_28 case_29 case_30 case_31 case_32 case_33 case_34 case_35 case_36 case_37 case_38 case_39 case_40 case_41 case_42 case_43 case_44 case_45 case_46 case_47 case_48 case_49 case_50
opened_natives = tt
