-- Two objects share a var slot.
use Rattle.std.specs.Prelude.{◌≡◌, pos, List, [], ◌∷◌, None, Ok, codes}
use Rattle.def_run.specs.World.{Script, run}
use Rattle.def_run.specs.Text.{text}
use Rattle.def_kernel.specs.Reading.{read}
use Rattle.test_machine.specs.Endings.{lines}
use Rattle.def_kernel.specs.declared.node.Literal.TheVariants as literal
use Rattle.def_kernel.specs.declared.node.Node.{Node}
use Rattle.def_kernel.specs.declared.node.Node.TheVariants.{Lit, Noun, Set, Def, Call, Sequence, Object, Method, Final, Var}
use Rattle.test_machine.specs.Keys.{zeros}

-- var n := 0; def up { method run() { n += 1 } }; def get { method run() { n } }; up(); get()
unfoldable pub tree_a : List Node
tree_a =
    Sequence (1 ∷ 4 ∷ 11 ∷ 15 ∷ 17 ∷ [])
    ∷ Def 2 None 3
    ∷ Var (codes "n") None
    ∷ Lit (literal.Int (pos 0))
    ∷ Object 5 [] (6 ∷ [])
    ∷ Final (codes "up") None
    ∷ Method (codes "run") [] 7
    ∷ Set (codes "n") 8
    ∷ Call 9 (codes "add") (10 ∷ [])
    ∷ Noun (codes "n")
    ∷ Lit (literal.Int (pos 1))
    ∷ Object 12 [] (13 ∷ [])
    ∷ Final (codes "get") None
    ∷ Method (codes "run") [] 14
    ∷ Noun (codes "n")
    ∷ Call 16 (codes "run") []
    ∷ Noun (codes "up")
    ∷ Call 18 (codes "run") []
    ∷ Noun (codes "get")
    ∷ []

unfoldable pub script : Script
script = record {
  key = zeros;
  fuel = 1000000;
  depth = 400;
  vats =
      record { name = codes "a"; knows = []; tree = tree_a } ∷
      [];
  schedule = [];
}

abbrev pub Row04Holds : Type 0
Row04Holds = text script (run script) ≡ lines (
    codes "open a"
    ∷ codes "!0 slot a&0 0"
    ∷ codes "!0 made a.0 up caps a&0"
    ∷ codes "!0 made a.1 get caps a&0"
    ∷ codes "!0 call a.0 run as !1"
    ∷ codes "!1 read a&0 0"
    ∷ codes "!1 call 0 add 1"
    ∷ codes "!1 back 1"
    ∷ codes "!1 wrote a&0 1"
    ∷ codes "!0 back 1"
    ∷ codes "!0 call a.1 run as !2"
    ∷ codes "!2 read a&0 1"
    ∷ codes "!0 back 1"
    ∷ codes "!0 done 1"
    ∷ codes "settle @a 1"
    ∷ codes "end"
    ∷ [])

-- the trees are those of these forms
abbrev pub Row04Reads : Type 0
Row04Reads =
    (read (codes "(seq (def (var n) (lit 0)) (object (final up) () (method run () (set n (call (noun n) add (lit 1))))) (object (final get) () (method run () (noun n))) (call (noun up) run) (call (noun get) run))") ≡ Ok tree_a)

-- opens the definitions of this file
unfoldable pub opened_row04 : Unit {0}
unfolding tree_a script
opened_row04 = tt
