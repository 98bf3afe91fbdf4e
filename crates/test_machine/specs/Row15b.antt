-- A promise that is resolved to itself.
use Rattle.std.specs.Prelude.{◌≡◌, List, [], ◌∷◌, None, Ok, codes}
use Rattle.def_run.specs.World.{Script, run}
use Rattle.def_run.specs.Text.{text}
use Rattle.def_kernel.specs.Reading.{read}
use Rattle.test_machine.specs.Endings.{lines}
use Rattle.def_kernel.specs.declared.node.Node.{Node}
use Rattle.def_kernel.specs.declared.node.Node.TheVariants.{Noun, Def, Call, Sequence, Final, ListPattern}
use Rattle.test_machine.specs.Keys.{zeros}

-- def [p, r] := Ref.promise(); r.resolve(p); Ref.isBroken(p)
unfoldable pub tree_a : List Node
tree_a =
    Sequence (1 ∷ 7 ∷ 10 ∷ [])
    ∷ Def 2 None 5
    ∷ ListPattern (3 ∷ 4 ∷ [])
    ∷ Final (codes "p") None
    ∷ Final (codes "r") None
    ∷ Call 6 (codes "promise") []
    ∷ Noun (codes "Ref")
    ∷ Call 8 (codes "resolve") (9 ∷ [])
    ∷ Noun (codes "r")
    ∷ Noun (codes "p")
    ∷ Call 11 (codes "isBroken") (12 ∷ [])
    ∷ Noun (codes "Ref")
    ∷ Noun (codes "p")
    ∷ []

unfoldable pub script : Script
script = record {
  key = zeros;
  fuel = 1000000;
  depth = 400;
  vats =
      record { name = codes "a"; knows = []; tree = tree_a } ∷
      [];
  schedule = [];
}

abbrev pub Row15bHolds : Type 0
Row15bHolds = text script (run script) ≡ lines (
    codes "open a"
    ∷ codes "!0 promise a~0 a.0"
    ∷ codes "!0 list a%0 a~0 a.0"
    ∷ codes "!0 call a.0 resolve a~0"
    ∷ codes "settle a~0 broken:\"cycle\""
    ∷ codes "!0 back null"
    ∷ codes "!0 done true"
    ∷ codes "settle @a true"
    ∷ codes "end"
    ∷ [])

-- the trees are those of these forms
abbrev pub Row15bReads : Type 0
Row15bReads =
    (read (codes "(seq (def (list (final p) (final r)) (call (noun Ref) promise)) (call (noun r) resolve (noun p)) (call (noun Ref) isBroken (noun p)))") ≡ Ok tree_a)

-- opens the definitions of this file
unfoldable pub opened_row15b : Unit {0}
unfolding tree_a script
opened_row15b = tt
