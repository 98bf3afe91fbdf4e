-- A run with hostile vats, and its text.
use Rattle.std.specs.Prelude.{◌≡◌, ℕ, List, [], ◌∷◌, codes, None}
use Rattle.def_run.specs.World.{Carry, Script}
use Rattle.def_hostile.specs.Hostile.{Play, Does, Injects, acts}
use Rattle.def_hostile.specs.HostileText.{text}
use Rattle.test_hostile.specs.Lines.{lines}
use Rattle.def_kernel.specs.declared.node.Literal.TheVariants as literal
use Rattle.def_kernel.specs.declared.node.Node.{Node}
use Rattle.def_kernel.specs.declared.node.Node.TheVariants.{Any, Call, Escape, Final, ListPattern, Lit, Matcher, Method, Noun, Object, Sequence}

unfoldable pub tree_2 : List Node
tree_2 =
    Object 1 [] (2 ∷ 16 ∷ 25 ∷ 33 ∷ [])
    ∷ Final (codes "t") None
    ∷ Method (codes "f") (3 ∷ []) 4
    ∷ Final (codes "x") None
    ∷ Escape 5 6 None
    ∷ Final (codes "__return") None
    ∷ Sequence (7 ∷ 15 ∷ [])
    ∷ Call 8 (codes "run") (9 ∷ [])
    ∷ Noun (codes "__return")
    ∷ Call 10 (codes "send") (11 ∷ 12 ∷ 13 ∷ [])
    ∷ Noun (codes "E")
    ∷ Noun (codes "x")
    ∷ Lit (literal.Text (codes "get"))
    ∷ Call 14 (codes "run") []
    ∷ Noun (codes "__makeList")
    ∷ Noun (codes "null")
    ∷ Method (codes "put") (17 ∷ []) 18
    ∷ Final (codes "x") None
    ∷ Escape 19 20 None
    ∷ Final (codes "__return") None
    ∷ Sequence (21 ∷ 24 ∷ [])
    ∷ Call 22 (codes "run") (23 ∷ [])
    ∷ Noun (codes "__return")
    ∷ Noun (codes "x")
    ∷ Noun (codes "null")
    ∷ Method (codes "get") [] 26
    ∷ Escape 27 28 None
    ∷ Final (codes "__return") None
    ∷ Sequence (29 ∷ 32 ∷ [])
    ∷ Call 30 (codes "run") (31 ∷ [])
    ∷ Noun (codes "__return")
    ∷ Noun (codes "t")
    ∷ Noun (codes "null")
    ∷ Matcher 34 37
    ∷ ListPattern (35 ∷ 36 ∷ [])
    ∷ Any None
    ∷ Final (codes "w") None
    ∷ Noun (codes "w")
    ∷ []

unfoldable pub play : Play
play = record {
  script = record {
    key = (131 ∷ 240 ∷ 73 ∷ 68 ∷ 3 ∷ 3 ∷ 235 ∷ 33 ∷ 40 ∷ 83 ∷ 195 ∷ 4 ∷ 185 ∷ 120 ∷ 126 ∷ 53 ∷ 226 ∷ 90 ∷ 77 ∷ 1 ∷ 54 ∷ 182 ∷ 179 ∷ 65 ∷ 159 ∷ 230 ∷ 212 ∷ 21 ∷ 123 ∷ 203 ∷ 93 ∷ 79 ∷ []);
    fuel = 200000;
    depth = 400;
    vats =
        record { name = codes "a"; knows = (1 ∷ 2 ∷ []); tree = [] } ∷
        record { name = codes "b"; knows = []; tree = [] } ∷
        record { name = codes "c"; knows = []; tree = tree_2 } ∷
        [];
    schedule = [];
  };
  hostile = (0 ∷ 1 ∷ []);
  doings = Injects 0 2 (2 ∷ 12 ∷ 0 ∷ 15 ∷ 2 ∷ []) ∷ Does (Carry 2 0) ∷ Does (Carry 0 2) ∷ Does (Carry 2 0) ∷ Injects 1 0 (3 ∷ []) ∷ Does (Carry 1 0) ∷ [];
}

-- what is due of it
abbrev pub due : List ℕ
due = lines (
    codes "open c"
    ∷ codes "!0 made c.0 t caps c.0"
    ∷ codes "!0 done c.0"
    ∷ codes "settle @c c.0"
    ∷ codes "1 inject a c 020c000f02"
    ∷ codes "2 carry c a settled @c c.0"
    ∷ codes "3 carry a c elsewhere a~0 c"
    ∷ codes "view a~0 c^0"
    ∷ codes "4 carry c a shorten a~0 c^0"
    ∷ codes "5 inject b a 03"
    ∷ codes "6 carry b a bytes 03"
    ∷ codes "end"
    ∷ [])

abbrev pub Holds : Type 0
Holds = text play (acts play) ≡ due

unfoldable pub opened : Unit {0}
unfolding tree_2 play
opened = tt
