-- An auditor written in E.
use Rattle.std.specs.Prelude.{◌≡◌, List, [], ◌∷◌, None, Ok, codes}
use Rattle.def_run.specs.World.{Script, run}
use Rattle.def_run.specs.Text.{text}
use Rattle.def_kernel.specs.Reading.{read}
use Rattle.test_machine.specs.Endings.{lines}
use Rattle.def_kernel.specs.declared.node.Node.{Node}
use Rattle.def_kernel.specs.declared.node.Node.TheVariants.{Noun, Call, Sequence, Object, Method, Final}
use Rattle.test_machine.specs.Keys.{zeros}

-- def aud { method audit(n) { true } }; def x implements aud {}; auditedBy(aud, x)
unfoldable pub tree_a : List Node
tree_a =
    Sequence (1 ∷ 6 ∷ 9 ∷ [])
    ∷ Object 2 [] (3 ∷ [])
    ∷ Final (codes "aud") None
    ∷ Method (codes "audit") (4 ∷ []) 5
    ∷ Final (codes "n") None
    ∷ Noun (codes "true")
    ∷ Object 7 (8 ∷ []) []
    ∷ Final (codes "x") None
    ∷ Noun (codes "aud")
    ∷ Call 10 (codes "run") (11 ∷ 12 ∷ [])
    ∷ Noun (codes "auditedBy")
    ∷ Noun (codes "aud")
    ∷ Noun (codes "x")
    ∷ []

unfoldable pub script : Script
script = record {
  key = zeros;
  fuel = 1000000;
  depth = 400;
  vats =
      record { name = codes "a"; knows = []; tree = tree_a } ∷
      [];
  schedule = [];
}

abbrev pub Row21Holds : Type 0
Row21Holds = text script (run script) ≡ lines (
    codes "open a"
    ∷ codes "!0 made a.0 aud"
    ∷ codes "!0 audition a.1"
    ∷ codes "!0 call a.0 audit a.1 as !1"
    ∷ codes "!0 back true"
    ∷ codes "!0 made a.2 x stamps a.0"
    ∷ codes "!0 done true"
    ∷ codes "settle @a true"
    ∷ codes "end"
    ∷ [])

-- the trees are those of these forms
abbrev pub Row21Reads : Type 0
Row21Reads =
    (read (codes "(seq (object (final aud) () (method audit ((final n)) (noun true))) (object (final x) ((noun aud))) (call (noun auditedBy) run (noun aud) (noun x)))") ≡ Ok tree_a)

-- opens the definitions of this file
unfoldable pub opened_row21 : Unit {0}
unfolding tree_a script
opened_row21 = tt
