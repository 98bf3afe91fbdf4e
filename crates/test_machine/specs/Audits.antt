-- Auditors and auditions.
use Rattle.std.specs.Prelude.{◌≡◌, pos, List, [], ◌∷◌, Some, None, Ok, codes}
use Rattle.def_kernel.specs.Reading.{read}
use Rattle.test_machine.specs.Endings.{ending_of}
use Rattle.def_kernel.specs.declared.node.Literal.TheVariants as literal
use Rattle.def_kernel.specs.declared.node.Node.{Node}
use Rattle.def_kernel.specs.declared.node.Node.TheVariants.{Lit, Noun, Set, Def, Call, Sequence, Object, Method, Final, Var}

unfoldable pub case_0 : List Node
case_0 =
    Object 1 (2 ∷ []) []
    ∷ Final (codes "x") None
    ∷ Lit (literal.Int (pos 5))
    ∷ []

unfoldable pub case_1 : List Node
case_1 =
    Sequence (1 ∷ 4 ∷ 10 ∷ 13 ∷ [])
    ∷ Def 2 None 3
    ∷ Var (codes "n") None
    ∷ Noun (codes "null")
    ∷ Object 5 [] (6 ∷ [])
    ∷ Final (codes "aud") None
    ∷ Method (codes "audit") (7 ∷ []) 8
    ∷ Final (codes "m") None
    ∷ Set (codes "n") 9
    ∷ Noun (codes "m")
    ∷ Object 11 (12 ∷ []) []
    ∷ Final (codes "x") None
    ∷ Noun (codes "aud")
    ∷ Call 14 (codes "getObjectExpr") []
    ∷ Noun (codes "n")
    ∷ []

unfoldable pub case_2 : List Node
case_2 =
    Sequence (1 ∷ 4 ∷ 14 ∷ 18 ∷ 23 ∷ [])
    ∷ Def 2 None 3
    ∷ Var (codes "n") None
    ∷ Noun (codes "null")
    ∷ Object 5 [] (6 ∷ [])
    ∷ Final (codes "aud") None
    ∷ Method (codes "audit") (7 ∷ []) 8
    ∷ Final (codes "m") None
    ∷ Sequence (9 ∷ 13 ∷ [])
    ∷ Set (codes "n") 10
    ∷ Call 11 (codes "getGuard") (12 ∷ [])
    ∷ Noun (codes "m")
    ∷ Lit (literal.Text (codes "k"))
    ∷ Noun (codes "true")
    ∷ Def 15 None 17
    ∷ Final (codes "k") (Some 16)
    ∷ Noun (codes "int")
    ∷ Lit (literal.Int (pos 3))
    ∷ Object 19 (20 ∷ []) (21 ∷ [])
    ∷ Final (codes "x") None
    ∷ Noun (codes "aud")
    ∷ Method (codes "run") [] 22
    ∷ Noun (codes "k")
    ∷ Noun (codes "n")
    ∷ []

unfoldable pub case_3 : List Node
case_3 =
    Sequence (1 ∷ 4 ∷ 14 ∷ [])
    ∷ Def 2 None 3
    ∷ Var (codes "n") None
    ∷ Noun (codes "null")
    ∷ Object 5 [] (6 ∷ [])
    ∷ Final (codes "aud") None
    ∷ Method (codes "audit") (7 ∷ []) 8
    ∷ Final (codes "m") None
    ∷ Sequence (9 ∷ 13 ∷ [])
    ∷ Set (codes "n") 10
    ∷ Call 11 (codes "getGuard") (12 ∷ [])
    ∷ Noun (codes "m")
    ∷ Lit (literal.Text (codes "z"))
    ∷ Noun (codes "true")
    ∷ Object 15 (16 ∷ []) []
    ∷ Final (codes "x") None
    ∷ Noun (codes "aud")
    ∷ []

unfoldable pub case_4 : List Node
case_4 =
    Sequence (1 ∷ 4 ∷ 14 ∷ 17 ∷ [])
    ∷ Def 2 None 3
    ∷ Var (codes "n") None
    ∷ Noun (codes "null")
    ∷ Object 5 [] (6 ∷ [])
    ∷ Final (codes "aud") None
    ∷ Method (codes "audit") (7 ∷ []) 8
    ∷ Final (codes "m") None
    ∷ Sequence (9 ∷ 13 ∷ [])
    ∷ Set (codes "n") 10
    ∷ Call 11 (codes "ask") (12 ∷ [])
    ∷ Noun (codes "m")
    ∷ Noun (codes "DeepFrozen")
    ∷ Noun (codes "true")
    ∷ Object 15 (16 ∷ []) []
    ∷ Final (codes "x") None
    ∷ Noun (codes "aud")
    ∷ Noun (codes "n")
    ∷ []

unfoldable pub case_5 : List Node
case_5 =
    Sequence (1 ∷ 4 ∷ 15 ∷ 18 ∷ [])
    ∷ Def 2 None 3
    ∷ Var (codes "n") None
    ∷ Noun (codes "null")
    ∷ Object 5 [] (6 ∷ [])
    ∷ Final (codes "aud") None
    ∷ Method (codes "audit") (7 ∷ []) 8
    ∷ Final (codes "m") None
    ∷ Sequence (9 ∷ 14 ∷ [])
    ∷ Set (codes "n") 10
    ∷ Call 11 (codes "get") (13 ∷ [])
    ∷ Call 12 (codes "getObjectExpr") []
    ∷ Noun (codes "m")
    ∷ Lit (literal.Int (pos 0))
    ∷ Noun (codes "true")
    ∷ Object 16 (17 ∷ []) []
    ∷ Final (codes "x") None
    ∷ Noun (codes "aud")
    ∷ Noun (codes "n")
    ∷ []

unfoldable pub case_6 : List Node
case_6 =
    Sequence (1 ∷ 6 ∷ 9 ∷ [])
    ∷ Object 2 [] (3 ∷ [])
    ∷ Final (codes "aud") None
    ∷ Method (codes "audit") (4 ∷ []) 5
    ∷ Final (codes "m") None
    ∷ Lit (literal.Int (pos 1))
    ∷ Object 7 (8 ∷ []) []
    ∷ Final (codes "x") None
    ∷ Noun (codes "aud")
    ∷ Call 10 (codes "run") (11 ∷ 12 ∷ [])
    ∷ Noun (codes "auditedBy")
    ∷ Noun (codes "aud")
    ∷ Noun (codes "x")
    ∷ []

unfoldable pub case_7 : List Node
case_7 =
    Sequence (1 ∷ 4 ∷ [])
    ∷ Object 2 (3 ∷ []) []
    ∷ Final (codes "x") None
    ∷ Noun (codes "DeepFrozen")
    ∷ Call 5 (codes "run") (6 ∷ 7 ∷ [])
    ∷ Noun (codes "auditedBy")
    ∷ Noun (codes "DeepFrozen")
    ∷ Noun (codes "x")
    ∷ []

unfoldable pub case_8 : List Node
case_8 =
    Call 1 (codes "run") (2 ∷ 3 ∷ [])
    ∷ Noun (codes "auditedBy")
    ∷ Noun (codes "DeepFrozen")
    ∷ Lit (literal.Int (pos 1))
    ∷ []

-- the trees are those of these forms
abbrev pub AuditsRead : Type 0
AuditsRead =
    (read (codes "(object (final x) ((lit 5)))") ≡ Ok case_0)
    × (read (codes "(seq (def (var n) (noun null)) (object (final aud) () (method audit ((final m)) (set n (noun m)))) (object (final x) ((noun aud))) (call (noun n) getObjectExpr))") ≡ Ok case_1)
    × (read (codes "(seq (def (var n) (noun null)) (object (final aud) () (method audit ((final m)) (seq (set n (call (noun m) getGuard (lit \"k\"))) (noun true)))) (def (final k (noun int)) (lit 3)) (object (final x) ((noun aud)) (method run () (noun k))) (noun n))") ≡ Ok case_2)
    × (read (codes "(seq (def (var n) (noun null)) (object (final aud) () (method audit ((final m)) (seq (set n (call (noun m) getGuard (lit \"z\"))) (noun true)))) (object (final x) ((noun aud))))") ≡ Ok case_3)
    × (read (codes "(seq (def (var n) (noun null)) (object (final aud) () (method audit ((final m)) (seq (set n (call (noun m) ask (noun DeepFrozen))) (noun true)))) (object (final x) ((noun aud))) (noun n))") ≡ Ok case_4)
    × (read (codes "(seq (def (var n) (noun null)) (object (final aud) () (method audit ((final m)) (seq (set n (call (call (noun m) getObjectExpr) get (lit 0))) (noun true)))) (object (final x) ((noun aud))) (noun n))") ≡ Ok case_5)
    × (read (codes "(seq (object (final aud) () (method audit ((final m)) (lit 1))) (object (final x) ((noun aud))) (call (noun auditedBy) run (noun aud) (noun x)))") ≡ Ok case_6)
    × (read (codes "(seq (object (final x) ((noun DeepFrozen))) (call (noun auditedBy) run (noun DeepFrozen) (noun x)))") ≡ Ok case_7)
    × (read (codes "(call (noun auditedBy) run (noun DeepFrozen) (lit 1))") ≡ Ok case_8)

-- how each ends
abbrev pub AuditsHold : Type 0
AuditsHold =
    (ending_of case_0 ≡ codes "settle @a broken:\"not an auditor\"")
    × (ending_of case_1 ≡ codes "settle @a broken:\"audition is dead\"")
    × (ending_of case_2 ≡ codes "settle @a <int>")
    × (ending_of case_3 ≡ codes "settle @a broken:\"not free\"")
    × (ending_of case_4 ≡ codes "settle @a true")
    × (ending_of case_5 ≡ codes "settle @a \"object\"")
    × (ending_of case_6 ≡ codes "settle @a false")
    × (ending_of case_7 ≡ codes "settle @a true")
    × (ending_of case_8 ≡ codes "settle @a false")

-- opens the definitions of this file
unfoldable pub opened_audits : Unit {0}
unfolding case_0 case_1 case_2 case_3 case_4 case_5 case_6 case_7 case_8
opened_audits = tt
