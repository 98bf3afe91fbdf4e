-- An auditor that throws leaves the making.
use Rattle.std.specs.Prelude.{◌≡◌, List, [], ◌∷◌, None, Ok, codes}
use Rattle.def_run.specs.World.{Script, run}
use Rattle.def_run.specs.Text.{text}
use Rattle.def_kernel.specs.Reading.{read}
use Rattle.test_machine.specs.Endings.{lines}
use Rattle.def_kernel.specs.declared.node.Literal.TheVariants as literal
use Rattle.def_kernel.specs.declared.node.Node.{Node}
use Rattle.def_kernel.specs.declared.node.Node.TheVariants.{Lit, Noun, Call, Sequence, Object, Method, Final}
use Rattle.test_machine.specs.Keys.{zeros}

-- def aud { method audit(n) { throw("bad") } }; def x implements aud {}
unfoldable pub tree_a : List Node
tree_a =
    Sequence (1 ∷ 8 ∷ [])
    ∷ Object 2 [] (3 ∷ [])
    ∷ Final (codes "aud") None
    ∷ Method (codes "audit") (4 ∷ []) 5
    ∷ Final (codes "n") None
    ∷ Call 6 (codes "run") (7 ∷ [])
    ∷ Noun (codes "throw")
    ∷ Lit (literal.Text (codes "bad"))
    ∷ Object 9 (10 ∷ []) []
    ∷ Final (codes "x") None
    ∷ Noun (codes "aud")
    ∷ []

unfoldable pub script : Script
script = record {
  key = zeros;
  fuel = 1000000;
  depth = 400;
  vats =
      record { name = codes "a"; knows = []; tree = tree_a } ∷
      [];
  schedule = [];
}

abbrev pub AuditorThrowsHolds : Type 0
AuditorThrowsHolds = text script (run script) ≡ lines (
    codes "open a"
    ∷ codes "!0 made a.0 aud"
    ∷ codes "!0 audition a.1"
    ∷ codes "!0 call a.0 audit a.1 as !1"
    ∷ codes "!0 thrown \"bad\""
    ∷ codes "!0 threw \"bad\""
    ∷ codes "settle @a broken:\"bad\""
    ∷ codes "end"
    ∷ [])

-- the trees are those of these forms
abbrev pub AuditorThrowsReads : Type 0
AuditorThrowsReads =
    (read (codes "(seq (object (final aud) () (method audit ((final n)) (call (noun throw) run (lit \"bad\")))) (object (final x) ((noun aud))))") ≡ Ok tree_a)

-- opens the definitions of this file
unfoldable pub opened_auditorthrows : Unit {0}
unfolding tree_a script
opened_auditorthrows = tt
