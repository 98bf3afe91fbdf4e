-- A script without hostile vats: a vat introduces another to a third, with so much fuel; and its run in numbers beside the play of it.
use Rattle.std.specs.Prelude.{◌≡◌, ℕ, pos, List, [], ◌∷◌, None, codes, map}
use Rattle.def_kernel.specs.declared.node.Literal.TheVariants as literal
use Rattle.def_kernel.specs.declared.node.Node.{Node}
use Rattle.def_kernel.specs.declared.node.Node.TheVariants.{Lit, Noun, Call, Sequence, Object, Method, Final}
use Rattle.def_run.specs.LocalText as run
use Rattle.def_run.specs.Numbers as run_numbers
use Rattle.def_run.specs.World.{Turn, Carry, CutLink, NoticeLink, Script}
use Rattle.def_hostile.specs.Hostile.{Play, Does}
use Rattle.def_hostile.specs.Numbers.{performs}
use Rattle.def_hostile.specs.NumbersText as numbers

unfoldable pub key : List ℕ
key = 0 ∷ 0 ∷ 0 ∷ 0 ∷ 0 ∷ 0 ∷ 0 ∷ 0 ∷ 0 ∷ 0 ∷ 0 ∷ 0 ∷ 0 ∷ 0 ∷ 0 ∷ 0 ∷ 0 ∷ 0 ∷ 0 ∷ 0 ∷ 0 ∷ 0 ∷ 0 ∷ 0 ∷ 0 ∷ 0 ∷ 0 ∷ 0 ∷ 0 ∷ 0 ∷ 0 ∷ 0 ∷ []

-- c <- put(0); b <- meet(c)
unfoldable pub tree_a : List Node
tree_a =
    Sequence (1 ∷ 8 ∷ [])
    ∷ Call 2 (codes "send") (3 ∷ 4 ∷ 5 ∷ [])
    ∷ Noun (codes "E")
    ∷ Noun (codes "c")
    ∷ Lit (literal.Text (codes "put"))
    ∷ Call 6 (codes "run") (7 ∷ [])
    ∷ Noun (codes "__makeList")
    ∷ Lit (literal.Int (pos 0))
    ∷ Call 9 (codes "send") (10 ∷ 11 ∷ 12 ∷ [])
    ∷ Noun (codes "E")
    ∷ Noun (codes "b")
    ∷ Lit (literal.Text (codes "meet"))
    ∷ Call 13 (codes "run") (14 ∷ [])
    ∷ Noun (codes "__makeList")
    ∷ Noun (codes "c")
    ∷ []

-- def t { method meet(p) { p <- put(2) } }
unfoldable pub tree_b : List Node
tree_b =
    Object 1 [] (2 ∷ [])
    ∷ Final (codes "t") None
    ∷ Method (codes "meet") (3 ∷ []) 4
    ∷ Final (codes "p") None
    ∷ Call 5 (codes "send") (6 ∷ 7 ∷ 8 ∷ [])
    ∷ Noun (codes "E")
    ∷ Noun (codes "p")
    ∷ Lit (literal.Text (codes "put"))
    ∷ Call 9 (codes "run") (10 ∷ [])
    ∷ Noun (codes "__makeList")
    ∷ Lit (literal.Int (pos 2))
    ∷ []

-- def o { method put(x) { x } }
unfoldable pub tree_c : List Node
tree_c =
    Object 1 [] (2 ∷ [])
    ∷ Final (codes "o") None
    ∷ Method (codes "put") (3 ∷ []) 4
    ∷ Final (codes "x") None
    ∷ Noun (codes "x")
    ∷ []

-- with so much fuel
unfoldable pub introduction : ℕ → Script
introduction fuel = record {
  key = key;
  fuel = fuel;
  depth = 400;
  vats =
      record { name = codes "a"; knows = 1 ∷ 2 ∷ []; tree = tree_a } ∷
      record { name = codes "b"; knows = []; tree = tree_b } ∷
      record { name = codes "c"; knows = []; tree = tree_c } ∷
      [];
  schedule = Carry 0 1 ∷ Turn 1 ∷ Carry 1 2 ∷ Carry 1 2 ∷ Carry 0 2 ∷ Carry 0 2 ∷ Turn 2 ∷ Turn 2 ∷ Carry 2 1 ∷ Carry 2 1 ∷ Carry 1 0 ∷ Carry 1 0 ∷ Carry 2 0 ∷ CutLink 1 2 ∷ NoticeLink 1 2 ∷ [];
}

-- without hostile vats
abbrev pub honest : Script → Play
honest script = record { script = script; hostile = []; doings = map Does script.schedule }

-- the texts of the two runs in numbers are one
abbrev pub RunsAgree : Script → Type 0
RunsAgree script = (numbers.text (honest script) (performs (honest script)) ≡ run.text script (run_numbers.run script)) × (numbers.wire_text (honest script) (performs (honest script)) ≡ run.wire_text script (run_numbers.run script))

-- opens each definition of this file
unfoldable pub opened_introduction : Unit {0}
unfolding key tree_a tree_b tree_c introduction
opened_introduction = tt
