-- An ejector that follows to null is handed on as null.
use Rattle.std.specs.Prelude.{◌≡◌, pos, List, [], ◌∷◌, None, Some, Ok, codes}
use Rattle.def_run.specs.World.{Script, run}
use Rattle.def_run.specs.Text.{text}
use Rattle.def_kernel.specs.Reading.{read}
use Rattle.test_machine.specs.Endings.{lines}
use Rattle.def_kernel.specs.declared.node.Literal.TheVariants as literal
use Rattle.def_kernel.specs.declared.node.Node.{Node}
use Rattle.def_kernel.specs.declared.node.Node.TheVariants.{Lit, Noun, Def, Call, Sequence, Object, Method, Final, ListPattern, Via}
use Rattle.test_machine.specs.Keys.{zeros}

-- def [p, r] := Ref.promise(); r.resolve(null); def o { method coerce(s, e) { s } method run(s, e) { s } }; def x :o exit p := 1; def via (o) z exit p := 1
unfoldable pub tree_a : List Node
tree_a =
    Sequence (1 ∷ 7 ∷ 10 ∷ 20 ∷ 25 ∷ [])
    ∷ Def 2 None 5
    ∷ ListPattern (3 ∷ 4 ∷ [])
    ∷ Final (codes "p") None
    ∷ Final (codes "r") None
    ∷ Call 6 (codes "promise") []
    ∷ Noun (codes "Ref")
    ∷ Call 8 (codes "resolve") (9 ∷ [])
    ∷ Noun (codes "r")
    ∷ Noun (codes "null")
    ∷ Object 11 [] (12 ∷ 16 ∷ [])
    ∷ Final (codes "o") None
    ∷ Method (codes "coerce") (13 ∷ 14 ∷ []) 15
    ∷ Final (codes "s") None
    ∷ Final (codes "e") None
    ∷ Noun (codes "s")
    ∷ Method (codes "run") (17 ∷ 18 ∷ []) 19
    ∷ Final (codes "s") None
    ∷ Final (codes "e") None
    ∷ Noun (codes "s")
    ∷ Def 21 (Some 23) 24
    ∷ Final (codes "x") (Some 22)
    ∷ Noun (codes "o")
    ∷ Noun (codes "p")
    ∷ Lit (literal.Int (pos 1))
    ∷ Def 26 (Some 29) 30
    ∷ Via 27 28
    ∷ Noun (codes "o")
    ∷ Final (codes "z") None
    ∷ Noun (codes "p")
    ∷ Lit (literal.Int (pos 1))
    ∷ []

unfoldable pub script : Script
script = record {
  key = zeros;
  fuel = 1000000;
  depth = 20000;
  vats =
      record { name = codes "a"; knows = []; tree = tree_a } ∷
      [];
  schedule = [];
}

abbrev pub EjectorHandedNullHolds : Type 0
EjectorHandedNullHolds = text script (run script) ≡ lines (
    codes "open a"
    ∷ codes "!0 promise a~0 a.0"
    ∷ codes "!0 list a%0 a~0 a.0"
    ∷ codes "!0 call a.0 resolve null"
    ∷ codes "settle a~0 null"
    ∷ codes "!0 back null"
    ∷ codes "!0 made a.1 o"
    ∷ codes "!0 call a.1 coerce 1 null as !1"
    ∷ codes "!0 back 1"
    ∷ codes "!0 call a.1 run 1 null as !2"
    ∷ codes "!0 back 1"
    ∷ codes "!0 done 1"
    ∷ codes "settle @a 1"
    ∷ codes "end"
    ∷ [])

-- the trees are those of these forms
abbrev pub EjectorHandedNullReads : Type 0
EjectorHandedNullReads =
    (read (codes "(seq (def (list (final p) (final r)) (call (noun Ref) promise)) (call (noun r) resolve (noun null)) (object (final o) () (method coerce ((final s) (final e)) (noun s)) (method run ((final s) (final e)) (noun s))) (def (final x (noun o)) exit (noun p) (lit 1)) (def (via (noun o) (final z)) exit (noun p) (lit 1)))") ≡ Ok tree_a)

-- opens the definitions of this file
unfoldable pub opened_ejectorhandednull : Unit {0}
unfolding tree_a script
opened_ejectorhandednull = tt
