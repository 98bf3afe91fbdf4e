-- An object that names itself is not selfless; one that names nothing is functional.
use Rattle.std.specs.Prelude.{◌≡◌, pos, List, [], ◌∷◌, None, Ok, codes}
use Rattle.def_run.specs.World.{Script, run}
use Rattle.def_run.specs.Text.{text}
use Rattle.def_kernel.specs.Reading.{read}
use Rattle.test_machine.specs.Endings.{lines}
use Rattle.def_kernel.specs.declared.node.Literal.TheVariants as literal
use Rattle.def_kernel.specs.declared.node.Node.{Node}
use Rattle.def_kernel.specs.declared.node.Node.TheVariants.{Lit, Noun, Call, Sequence, Object, Method, Final}
use Rattle.test_machine.specs.Keys.{zeros}

-- def x implements Selfless { method run() { x } }; def y implements Functional { method run(n) { n + 1 } }
unfoldable pub tree_a : List Node
tree_a =
    Sequence (1 ∷ 6 ∷ [])
    ∷ Object 2 (3 ∷ []) (4 ∷ [])
    ∷ Final (codes "x") None
    ∷ Noun (codes "Selfless")
    ∷ Method (codes "run") [] 5
    ∷ Noun (codes "x")
    ∷ Object 7 (8 ∷ []) (9 ∷ [])
    ∷ Final (codes "y") None
    ∷ Noun (codes "Functional")
    ∷ Method (codes "run") (10 ∷ []) 11
    ∷ Final (codes "n") None
    ∷ Call 12 (codes "add") (13 ∷ [])
    ∷ Noun (codes "n")
    ∷ Lit (literal.Int (pos 1))
    ∷ []

unfoldable pub script : Script
script = record {
  key = zeros;
  fuel = 1000000;
  depth = 400;
  vats =
      record { name = codes "a"; knows = []; tree = tree_a } ∷
      [];
  schedule = [];
}

abbrev pub NativeAuditorsHolds : Type 0
NativeAuditorsHolds = text script (run script) ≡ lines (
    codes "open a"
    ∷ codes "!0 made a.0 x caps a.0"
    ∷ codes "!0 made a.1 y stamps <Functional>"
    ∷ codes "!0 done a.1"
    ∷ codes "settle @a a.1"
    ∷ codes "end"
    ∷ [])

-- the trees are those of these forms
abbrev pub NativeAuditorsReads : Type 0
NativeAuditorsReads =
    (read (codes "(seq (object (final x) ((noun Selfless)) (method run () (noun x))) (object (final y) ((noun Functional)) (method run ((final n)) (call (noun n) add (lit 1)))))") ≡ Ok tree_a)

-- opens the definitions of this file
unfoldable pub opened_native_auditors : Unit {0}
unfolding tree_a script
opened_native_auditors = tt
