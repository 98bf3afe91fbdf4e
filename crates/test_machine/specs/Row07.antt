-- What DeepFrozen approves.
use Rattle.std.specs.Prelude.{◌≡◌, pos, List, [], ◌∷◌, Some, None, Ok, codes}
use Rattle.def_run.specs.World.{Script, run}
use Rattle.def_run.specs.Text.{text}
use Rattle.def_kernel.specs.Reading.{read}
use Rattle.test_machine.specs.Endings.{lines}
use Rattle.def_kernel.specs.declared.node.Literal.TheVariants as literal
use Rattle.def_kernel.specs.declared.node.Node.{Node}
use Rattle.def_kernel.specs.declared.node.Node.TheVariants.{Lit, Noun, Def, Sequence, Object, Method, Final, Var}
use Rattle.test_machine.specs.Keys.{zeros}

-- var c := 0; def n :int := 3; def p implements DeepFrozen { method run() { c } }; def q implements DeepFrozen { method run() { n } }; def r implements DeepFrozen { method run() { r } }
unfoldable pub tree_a : List Node
tree_a =
    Sequence (1 ∷ 4 ∷ 8 ∷ 13 ∷ 18 ∷ [])
    ∷ Def 2 None 3
    ∷ Var (codes "c") None
    ∷ Lit (literal.Int (pos 0))
    ∷ Def 5 None 7
    ∷ Final (codes "n") (Some 6)
    ∷ Noun (codes "int")
    ∷ Lit (literal.Int (pos 3))
    ∷ Object 9 (10 ∷ []) (11 ∷ [])
    ∷ Final (codes "p") None
    ∷ Noun (codes "DeepFrozen")
    ∷ Method (codes "run") [] 12
    ∷ Noun (codes "c")
    ∷ Object 14 (15 ∷ []) (16 ∷ [])
    ∷ Final (codes "q") None
    ∷ Noun (codes "DeepFrozen")
    ∷ Method (codes "run") [] 17
    ∷ Noun (codes "n")
    ∷ Object 19 (20 ∷ []) (21 ∷ [])
    ∷ Final (codes "r") None
    ∷ Noun (codes "DeepFrozen")
    ∷ Method (codes "run") [] 22
    ∷ Noun (codes "r")
    ∷ []

unfoldable pub script : Script
script = record {
  key = zeros;
  fuel = 1000000;
  depth = 400;
  vats =
      record { name = codes "a"; knows = []; tree = tree_a } ∷
      [];
  schedule = [];
}

abbrev pub Row07Holds : Type 0
Row07Holds = text script (run script) ≡ lines (
    codes "open a"
    ∷ codes "!0 slot a&0 0"
    ∷ codes "!0 made a.0 p caps a&0"
    ∷ codes "!0 made a.1 q caps 3 stamps <DeepFrozen>"
    ∷ codes "!0 made a.2 r caps a.2 stamps <DeepFrozen>"
    ∷ codes "!0 done a.2"
    ∷ codes "settle @a a.2"
    ∷ codes "end"
    ∷ [])

-- the trees are those of these forms
abbrev pub Row07Reads : Type 0
Row07Reads =
    (read (codes "(seq (def (var c) (lit 0)) (def (final n (noun int)) (lit 3)) (object (final p) ((noun DeepFrozen)) (method run () (noun c))) (object (final q) ((noun DeepFrozen)) (method run () (noun n))) (object (final r) ((noun DeepFrozen)) (method run () (noun r))))") ≡ Ok tree_a)

-- opens the definitions of this file
unfoldable pub opened_row07 : Unit {0}
unfolding tree_a script
opened_row07 = tt
