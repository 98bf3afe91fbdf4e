-- A dead ejector, and a matcher.
use Rattle.std.specs.Prelude.{◌≡◌, pos, List, [], ◌∷◌, None, Ok, codes}
use Rattle.def_run.specs.World.{Script, run}
use Rattle.def_run.specs.Text.{text}
use Rattle.def_kernel.specs.Reading.{read}
use Rattle.test_machine.specs.Endings.{lines}
use Rattle.def_kernel.specs.declared.node.Literal.TheVariants as literal
use Rattle.def_kernel.specs.declared.node.Node.{Node}
use Rattle.def_kernel.specs.declared.node.Node.TheVariants.{Lit, Noun, Def, Call, Sequence, Escape, Object, Matcher, Final, ListPattern}
use Rattle.test_machine.specs.Keys.{zeros}

-- def old := escape ej { ej }; def m { match [v, args] { v } }; m.zip(7); old(1)
unfoldable pub tree_a : List Node
tree_a =
    Sequence (1 ∷ 6 ∷ 13 ∷ 16 ∷ [])
    ∷ Def 2 None 3
    ∷ Final (codes "old") None
    ∷ Escape 4 5 None
    ∷ Final (codes "ej") None
    ∷ Noun (codes "ej")
    ∷ Object 7 [] (8 ∷ [])
    ∷ Final (codes "m") None
    ∷ Matcher 9 12
    ∷ ListPattern (10 ∷ 11 ∷ [])
    ∷ Final (codes "v") None
    ∷ Final (codes "args") None
    ∷ Noun (codes "v")
    ∷ Call 14 (codes "zip") (15 ∷ [])
    ∷ Noun (codes "m")
    ∷ Lit (literal.Int (pos 7))
    ∷ Call 17 (codes "run") (18 ∷ [])
    ∷ Noun (codes "old")
    ∷ Lit (literal.Int (pos 1))
    ∷ []

unfoldable pub script : Script
script = record {
  key = zeros;
  fuel = 1000000;
  depth = 400;
  vats =
      record { name = codes "a"; knows = []; tree = tree_a } ∷
      [];
  schedule = [];
}

abbrev pub Row05Holds : Type 0
Row05Holds = text script (run script) ≡ lines (
    codes "open a"
    ∷ codes "!0 ejector a.0"
    ∷ codes "!0 made a.1 m"
    ∷ codes "!0 call a.1 zip 7 as !1"
    ∷ codes "!1 list a%0 7"
    ∷ codes "!1 list a%1 \"zip\" a%0"
    ∷ codes "!1 ejector a.2"
    ∷ codes "!0 back \"zip\""
    ∷ codes "!0 call a.0 run 1"
    ∷ codes "!0 thrown \"ejector is dead\""
    ∷ codes "!0 threw \"ejector is dead\""
    ∷ codes "settle @a broken:\"ejector is dead\""
    ∷ codes "end"
    ∷ [])

-- the trees are those of these forms
abbrev pub Row05Reads : Type 0
Row05Reads =
    (read (codes "(seq (def (final old) (escape (final ej) (noun ej))) (object (final m) () (matcher (list (final v) (final args)) (noun v))) (call (noun m) zip (lit 7)) (call (noun old) run (lit 1)))") ≡ Ok tree_a)

-- opens the definitions of this file
unfoldable pub opened_row05 : Unit {0}
unfolding tree_a script
opened_row05 = tt
