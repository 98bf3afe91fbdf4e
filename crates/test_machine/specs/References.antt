-- References inside a vat.
use Rattle.std.specs.Prelude.{◌≡◌, pos, List, [], ◌∷◌, None, Ok, codes}
use Rattle.def_kernel.specs.Reading.{read}
use Rattle.test_machine.specs.Endings.{ending_of}
use Rattle.def_kernel.specs.declared.node.Literal.TheVariants as literal
use Rattle.def_kernel.specs.declared.node.Node.{Node}
use Rattle.def_kernel.specs.declared.node.Node.TheVariants.{Lit, Noun, Def, Call, Sequence, Final, ListPattern}

unfoldable pub case_0 : List Node
case_0 =
    Call 1 (codes "isNear") (2 ∷ [])
    ∷ Noun (codes "Ref")
    ∷ Lit (literal.Int (pos 1))
    ∷ []

unfoldable pub case_1 : List Node
case_1 =
    Sequence (1 ∷ 7 ∷ [])
    ∷ Def 2 None 5
    ∷ ListPattern (3 ∷ 4 ∷ [])
    ∷ Final (codes "p") None
    ∷ Final (codes "r") None
    ∷ Call 6 (codes "promise") []
    ∷ Noun (codes "Ref")
    ∷ Call 8 (codes "isResolved") (9 ∷ [])
    ∷ Noun (codes "Ref")
    ∷ Noun (codes "p")
    ∷ []

unfoldable pub case_2 : List Node
case_2 =
    Sequence (1 ∷ 7 ∷ 10 ∷ [])
    ∷ Def 2 None 5
    ∷ ListPattern (3 ∷ 4 ∷ [])
    ∷ Final (codes "p") None
    ∷ Final (codes "r") None
    ∷ Call 6 (codes "promise") []
    ∷ Noun (codes "Ref")
    ∷ Call 8 (codes "resolve") (9 ∷ [])
    ∷ Noun (codes "r")
    ∷ Lit (literal.Int (pos 1))
    ∷ Call 11 (codes "isResolved") (12 ∷ [])
    ∷ Noun (codes "Ref")
    ∷ Noun (codes "p")
    ∷ []

unfoldable pub case_3 : List Node
case_3 =
    Sequence (1 ∷ 7 ∷ 10 ∷ [])
    ∷ Def 2 None 5
    ∷ ListPattern (3 ∷ 4 ∷ [])
    ∷ Final (codes "p") None
    ∷ Final (codes "r") None
    ∷ Call 6 (codes "promise") []
    ∷ Noun (codes "Ref")
    ∷ Call 8 (codes "resolve") (9 ∷ [])
    ∷ Noun (codes "r")
    ∷ Lit (literal.Int (pos 1))
    ∷ Call 11 (codes "resolve") (12 ∷ [])
    ∷ Noun (codes "r")
    ∷ Lit (literal.Int (pos 2))
    ∷ []

unfoldable pub case_4 : List Node
case_4 =
    Sequence (1 ∷ 7 ∷ [])
    ∷ Def 2 None 5
    ∷ ListPattern (3 ∷ 4 ∷ [])
    ∷ Final (codes "p") None
    ∷ Final (codes "r") None
    ∷ Call 6 (codes "promise") []
    ∷ Noun (codes "Ref")
    ∷ Call 8 (codes "smash") (9 ∷ [])
    ∷ Noun (codes "r")
    ∷ Lit (literal.Int (pos 5))
    ∷ []

unfoldable pub case_5 : List Node
case_5 =
    Sequence (1 ∷ 7 ∷ 10 ∷ [])
    ∷ Def 2 None 5
    ∷ ListPattern (3 ∷ 4 ∷ [])
    ∷ Final (codes "p") None
    ∷ Final (codes "r") None
    ∷ Call 6 (codes "promise") []
    ∷ Noun (codes "Ref")
    ∷ Call 8 (codes "smash") (9 ∷ [])
    ∷ Noun (codes "r")
    ∷ Lit (literal.Text (codes "x"))
    ∷ Call 11 (codes "optProblem") (12 ∷ [])
    ∷ Noun (codes "Ref")
    ∷ Noun (codes "p")
    ∷ []

unfoldable pub case_6 : List Node
case_6 =
    Call 1 (codes "fulfillment") (2 ∷ [])
    ∷ Noun (codes "Ref")
    ∷ Call 3 (codes "broken") (4 ∷ [])
    ∷ Noun (codes "Ref")
    ∷ Lit (literal.Text (codes "x"))
    ∷ []

unfoldable pub case_7 : List Node
case_7 =
    Sequence (1 ∷ 7 ∷ [])
    ∷ Def 2 None 5
    ∷ ListPattern (3 ∷ 4 ∷ [])
    ∷ Final (codes "p") None
    ∷ Final (codes "r") None
    ∷ Call 6 (codes "promise") []
    ∷ Noun (codes "Ref")
    ∷ Call 8 (codes "fulfillment") (9 ∷ [])
    ∷ Noun (codes "Ref")
    ∷ Noun (codes "p")
    ∷ []

unfoldable pub case_8 : List Node
case_8 =
    Sequence (1 ∷ 7 ∷ [])
    ∷ Def 2 None 5
    ∷ ListPattern (3 ∷ 4 ∷ [])
    ∷ Final (codes "p") None
    ∷ Final (codes "r") None
    ∷ Call 6 (codes "promise") []
    ∷ Noun (codes "Ref")
    ∷ Call 8 (codes "foo") []
    ∷ Noun (codes "p")
    ∷ []

unfoldable pub case_9 : List Node
case_9 =
    Sequence (1 ∷ 7 ∷ 10 ∷ [])
    ∷ Def 2 None 5
    ∷ ListPattern (3 ∷ 4 ∷ [])
    ∷ Final (codes "p") None
    ∷ Final (codes "r") None
    ∷ Call 6 (codes "promise") []
    ∷ Noun (codes "Ref")
    ∷ Call 8 (codes "smash") (9 ∷ [])
    ∷ Noun (codes "r")
    ∷ Lit (literal.Text (codes "x"))
    ∷ Call 11 (codes "foo") []
    ∷ Noun (codes "p")
    ∷ []

unfoldable pub case_10 : List Node
case_10 =
    Sequence (1 ∷ 7 ∷ 12 ∷ [])
    ∷ Def 2 None 5
    ∷ ListPattern (3 ∷ 4 ∷ [])
    ∷ Final (codes "p") None
    ∷ Final (codes "r") None
    ∷ Call 6 (codes "promise") []
    ∷ Noun (codes "Ref")
    ∷ Call 8 (codes "resolve") (9 ∷ [])
    ∷ Noun (codes "r")
    ∷ Call 10 (codes "run") (11 ∷ [])
    ∷ Noun (codes "__makeList")
    ∷ Noun (codes "p")
    ∷ Call 13 (codes "optProblem") (14 ∷ [])
    ∷ Noun (codes "Ref")
    ∷ Noun (codes "p")
    ∷ []

unfoldable pub case_11 : List Node
case_11 =
    Sequence (1 ∷ 7 ∷ 13 ∷ 16 ∷ 19 ∷ [])
    ∷ Def 2 None 5
    ∷ ListPattern (3 ∷ 4 ∷ [])
    ∷ Final (codes "p") None
    ∷ Final (codes "r") None
    ∷ Call 6 (codes "promise") []
    ∷ Noun (codes "Ref")
    ∷ Def 8 None 11
    ∷ ListPattern (9 ∷ 10 ∷ [])
    ∷ Final (codes "q") None
    ∷ Final (codes "s") None
    ∷ Call 12 (codes "promise") []
    ∷ Noun (codes "Ref")
    ∷ Call 14 (codes "resolve") (15 ∷ [])
    ∷ Noun (codes "r")
    ∷ Noun (codes "q")
    ∷ Call 17 (codes "resolve") (18 ∷ [])
    ∷ Noun (codes "s")
    ∷ Noun (codes "p")
    ∷ Call 20 (codes "optProblem") (21 ∷ [])
    ∷ Noun (codes "Ref")
    ∷ Noun (codes "p")
    ∷ []

unfoldable pub case_12 : List Node
case_12 =
    Sequence (1 ∷ 7 ∷ 13 ∷ 16 ∷ 21 ∷ [])
    ∷ Def 2 None 5
    ∷ ListPattern (3 ∷ 4 ∷ [])
    ∷ Final (codes "p") None
    ∷ Final (codes "r") None
    ∷ Call 6 (codes "promise") []
    ∷ Noun (codes "Ref")
    ∷ Def 8 None 11
    ∷ ListPattern (9 ∷ 10 ∷ [])
    ∷ Final (codes "q") None
    ∷ Final (codes "s") None
    ∷ Call 12 (codes "promise") []
    ∷ Noun (codes "Ref")
    ∷ Call 14 (codes "resolve") (15 ∷ [])
    ∷ Noun (codes "r")
    ∷ Noun (codes "q")
    ∷ Call 17 (codes "resolve") (18 ∷ [])
    ∷ Noun (codes "s")
    ∷ Call 19 (codes "run") (20 ∷ [])
    ∷ Noun (codes "__makeList")
    ∷ Noun (codes "p")
    ∷ Call 22 (codes "run") (23 ∷ 26 ∷ [])
    ∷ Noun (codes "__makeList")
    ∷ Call 24 (codes "isBroken") (25 ∷ [])
    ∷ Noun (codes "Ref")
    ∷ Noun (codes "p")
    ∷ Call 27 (codes "isBroken") (28 ∷ [])
    ∷ Noun (codes "Ref")
    ∷ Noun (codes "q")
    ∷ []

unfoldable pub case_13 : List Node
case_13 =
    Call 1 (codes "whenResolved") (2 ∷ 3 ∷ [])
    ∷ Noun (codes "Ref")
    ∷ Lit (literal.Int (pos 1))
    ∷ Call 4 (codes "broken") (5 ∷ [])
    ∷ Noun (codes "Ref")
    ∷ Lit (literal.Text (codes "x"))
    ∷ []

-- the trees are those of these forms
abbrev pub ReferencesRead : Type 0
ReferencesRead =
    (read (codes "(call (noun Ref) isNear (lit 1))") ≡ Ok case_0)
    × (read (codes "(seq (def (list (final p) (final r)) (call (noun Ref) promise)) (call (noun Ref) isResolved (noun p)))") ≡ Ok case_1)
    × (read (codes "(seq (def (list (final p) (final r)) (call (noun Ref) promise)) (call (noun r) resolve (lit 1)) (call (noun Ref) isResolved (noun p)))") ≡ Ok case_2)
    × (read (codes "(seq (def (list (final p) (final r)) (call (noun Ref) promise)) (call (noun r) resolve (lit 1)) (call (noun r) resolve (lit 2)))") ≡ Ok case_3)
    × (read (codes "(seq (def (list (final p) (final r)) (call (noun Ref) promise)) (call (noun r) smash (lit 5)))") ≡ Ok case_4)
    × (read (codes "(seq (def (list (final p) (final r)) (call (noun Ref) promise)) (call (noun r) smash (lit \"x\")) (call (noun Ref) optProblem (noun p)))") ≡ Ok case_5)
    × (read (codes "(call (noun Ref) fulfillment (call (noun Ref) broken (lit \"x\")))") ≡ Ok case_6)
    × (read (codes "(seq (def (list (final p) (final r)) (call (noun Ref) promise)) (call (noun Ref) fulfillment (noun p)))") ≡ Ok case_7)
    × (read (codes "(seq (def (list (final p) (final r)) (call (noun Ref) promise)) (call (noun p) foo))") ≡ Ok case_8)
    × (read (codes "(seq (def (list (final p) (final r)) (call (noun Ref) promise)) (call (noun r) smash (lit \"x\")) (call (noun p) foo))") ≡ Ok case_9)
    × (read (codes "(seq (def (list (final p) (final r)) (call (noun Ref) promise)) (call (noun r) resolve (call (noun __makeList) run (noun p))) (call (noun Ref) optProblem (noun p)))") ≡ Ok case_10)
    × (read (codes "(seq (def (list (final p) (final r)) (call (noun Ref) promise)) (def (list (final q) (final s)) (call (noun Ref) promise)) (call (noun r) resolve (noun q)) (call (noun s) resolve (noun p)) (call (noun Ref) optProblem (noun p)))") ≡ Ok case_11)
    × (read (codes "(seq (def (list (final p) (final r)) (call (noun Ref) promise)) (def (list (final q) (final s)) (call (noun Ref) promise)) (call (noun r) resolve (noun q)) (call (noun s) resolve (call (noun __makeList) run (noun p))) (call (noun __makeList) run (call (noun Ref) isBroken (noun p)) (call (noun Ref) isBroken (noun q))))") ≡ Ok case_12)
    × (read (codes "(call (noun Ref) whenResolved (lit 1) (call (noun Ref) broken (lit \"x\")))") ≡ Ok case_13)

-- how each ends
abbrev pub ReferencesHold : Type 0
ReferencesHold =
    (ending_of case_0 ≡ codes "settle @a true")
    × (ending_of case_1 ≡ codes "settle @a false")
    × (ending_of case_2 ≡ codes "settle @a true")
    × (ending_of case_3 ≡ codes "settle @a broken:\"already resolved\"")
    × (ending_of case_4 ≡ codes "settle @a broken:\"bad argument\"")
    × (ending_of case_5 ≡ codes "settle @a \"x\"")
    × (ending_of case_6 ≡ codes "settle @a broken:\"x\"")
    × (ending_of case_7 ≡ codes "settle @a broken:\"not resolved\"")
    × (ending_of case_8 ≡ codes "settle @a broken:\"not near\"")
    × (ending_of case_9 ≡ codes "settle @a broken:\"x\"")
    × (ending_of case_10 ≡ codes "settle @a \"cycle\"")
    × (ending_of case_11 ≡ codes "settle @a \"cycle\"")
    × (ending_of case_12 ≡ codes "settle @a a%3")
    × (ending_of case_13 ≡ codes "settle @a broken:\"not near\"")

-- opens the definitions of this file
unfoldable pub opened_references : Unit {0}
unfolding case_0 case_1 case_2 case_3 case_4 case_5 case_6 case_7 case_8 case_9 case_10 case_11 case_12 case_13
opened_references = tt
