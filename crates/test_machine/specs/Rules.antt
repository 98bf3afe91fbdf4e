-- The auditors Selfless and Functional.
use Rattle.std.specs.Prelude.{◌≡◌, pos, List, [], ◌∷◌, Some, None, Ok, codes}
use Rattle.def_kernel.specs.Reading.{read}
use Rattle.test_machine.specs.Endings.{ending_of}
use Rattle.def_kernel.specs.declared.node.Literal.TheVariants as literal
use Rattle.def_kernel.specs.declared.node.Node.{Node}
use Rattle.def_kernel.specs.declared.node.Node.TheVariants.{Lit, Noun, Def, Call, Sequence, Object, Method, Final, Var}

unfoldable pub case_0 : List Node
case_0 =
    Sequence (1 ∷ 10 ∷ [])
    ∷ Object 2 (3 ∷ []) (4 ∷ [])
    ∷ Final (codes "x") None
    ∷ Noun (codes "Functional")
    ∷ Method (codes "run") [] 5
    ∷ Call 6 (codes "send") (7 ∷ 8 ∷ 9 ∷ [])
    ∷ Noun (codes "E")
    ∷ Noun (codes "null")
    ∷ Lit (literal.Text (codes "f"))
    ∷ Noun (codes "null")
    ∷ Call 11 (codes "run") (12 ∷ 13 ∷ [])
    ∷ Noun (codes "auditedBy")
    ∷ Noun (codes "Functional")
    ∷ Noun (codes "x")
    ∷ []

unfoldable pub case_1 : List Node
case_1 =
    Sequence (1 ∷ 5 ∷ 13 ∷ [])
    ∷ Def 2 None 4
    ∷ Final (codes "k") (Some 3)
    ∷ Noun (codes "int")
    ∷ Lit (literal.Int (pos 3))
    ∷ Object 6 (7 ∷ []) (8 ∷ [])
    ∷ Final (codes "x") None
    ∷ Noun (codes "Functional")
    ∷ Method (codes "run") [] 9
    ∷ Call 10 (codes "add") (11 ∷ [])
    ∷ Noun (codes "k")
    ∷ Call 12 (codes "run") []
    ∷ Noun (codes "x")
    ∷ Call 14 (codes "run") (15 ∷ 16 ∷ [])
    ∷ Noun (codes "auditedBy")
    ∷ Noun (codes "Functional")
    ∷ Noun (codes "x")
    ∷ []

unfoldable pub case_2 : List Node
case_2 =
    Sequence (1 ∷ 5 ∷ 10 ∷ [])
    ∷ Def 2 None 4
    ∷ Final (codes "k") (Some 3)
    ∷ Noun (codes "DeepFrozen")
    ∷ Lit (literal.Int (pos 3))
    ∷ Object 6 (7 ∷ []) (8 ∷ [])
    ∷ Final (codes "x") None
    ∷ Noun (codes "Functional")
    ∷ Method (codes "run") [] 9
    ∷ Noun (codes "k")
    ∷ Call 11 (codes "run") (12 ∷ 13 ∷ [])
    ∷ Noun (codes "auditedBy")
    ∷ Noun (codes "Functional")
    ∷ Noun (codes "x")
    ∷ []

unfoldable pub case_3 : List Node
case_3 =
    Sequence (1 ∷ 4 ∷ 9 ∷ [])
    ∷ Def 2 None 3
    ∷ Var (codes "k") None
    ∷ Lit (literal.Int (pos 3))
    ∷ Object 5 (6 ∷ []) (7 ∷ [])
    ∷ Final (codes "x") None
    ∷ Noun (codes "Selfless")
    ∷ Method (codes "run") [] 8
    ∷ Noun (codes "k")
    ∷ Call 10 (codes "run") (11 ∷ 12 ∷ [])
    ∷ Noun (codes "auditedBy")
    ∷ Noun (codes "Selfless")
    ∷ Noun (codes "x")
    ∷ []

unfoldable pub case_4 : List Node
case_4 =
    Sequence (1 ∷ 6 ∷ 10 ∷ [])
    ∷ Object 2 (3 ∷ []) (4 ∷ [])
    ∷ Final (codes "x") None
    ∷ Noun (codes "Selfless")
    ∷ Method (codes "run") [] 5
    ∷ Lit (literal.Int (pos 1))
    ∷ Def 7 None 9
    ∷ Final (codes "y") (Some 8)
    ∷ Noun (codes "DeepFrozen")
    ∷ Noun (codes "x")
    ∷ Noun (codes "y")
    ∷ []

unfoldable pub case_5 : List Node
case_5 =
    Def 1 None 3
    ∷ Final (codes "x") (Some 2)
    ∷ Noun (codes "Selfless")
    ∷ Lit (literal.Int (pos 1))
    ∷ []

unfoldable pub case_6 : List Node
case_6 =
    Call 1 (codes "get") (2 ∷ [])
    ∷ Noun (codes "nullOk")
    ∷ Noun (codes "Functional")
    ∷ []

unfoldable pub case_7 : List Node
case_7 =
    Call 1 (codes "run") []
    ∷ Noun (codes "Selfless")
    ∷ []

-- the trees are those of these forms
abbrev pub RulesRead : Type 0
RulesRead =
    (read (codes "(seq (object (final x) ((noun Functional)) (method run () (call (noun E) send (noun null) (lit \"f\") (noun null)))) (call (noun auditedBy) run (noun Functional) (noun x)))") ≡ Ok case_0)
    × (read (codes "(seq (def (final k (noun int)) (lit 3)) (object (final x) ((noun Functional)) (method run () (call (noun k) add (call (noun x) run)))) (call (noun auditedBy) run (noun Functional) (noun x)))") ≡ Ok case_1)
    × (read (codes "(seq (def (final k (noun DeepFrozen)) (lit 3)) (object (final x) ((noun Functional)) (method run () (noun k))) (call (noun auditedBy) run (noun Functional) (noun x)))") ≡ Ok case_2)
    × (read (codes "(seq (def (var k) (lit 3)) (object (final x) ((noun Selfless)) (method run () (noun k))) (call (noun auditedBy) run (noun Selfless) (noun x)))") ≡ Ok case_3)
    × (read (codes "(seq (object (final x) ((noun Selfless)) (method run () (lit 1))) (def (final y (noun DeepFrozen)) (noun x)) (noun y))") ≡ Ok case_4)
    × (read (codes "(def (final x (noun Selfless)) (lit 1))") ≡ Ok case_5)
    × (read (codes "(call (noun nullOk) get (noun Functional))") ≡ Ok case_6)
    × (read (codes "(call (noun Selfless) run)") ≡ Ok case_7)

-- how each ends
abbrev pub RulesHold : Type 0
RulesHold =
    (ending_of case_0 ≡ codes "settle @a false")
    × (ending_of case_1 ≡ codes "settle @a true")
    × (ending_of case_2 ≡ codes "settle @a false")
    × (ending_of case_3 ≡ codes "settle @a true")
    × (ending_of case_4 ≡ codes "settle @a broken:\"not DeepFrozen\"")
    × (ending_of case_5 ≡ codes "settle @a broken:\"not a guard\"")
    × (ending_of case_6 ≡ codes "settle @a broken:\"bad argument\"")
    × (ending_of case_7 ≡ codes "settle @a broken:\"no method\"")

-- opens the definitions of this file
unfoldable pub opened_rules : Unit {0}
unfolding case_0 case_1 case_2 case_3 case_4 case_5 case_6 case_7
opened_rules = tt
