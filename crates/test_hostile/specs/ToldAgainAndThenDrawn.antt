-- A run with hostile vats, and its text with its frames.
use Rattle.std.specs.Prelude.{◌≡◌, ℕ, List, [], ◌∷◌, codes, None}
use Rattle.def_run.specs.World.{Carry, Script}
use Rattle.def_hostile.specs.Hostile.{Play, Does, Injects, acts}
use Rattle.def_hostile.specs.HostileText.{wire_text}
use Rattle.test_hostile.specs.Lines.{lines}
use Rattle.def_kernel.specs.declared.node.Node.{Node}
use Rattle.def_kernel.specs.declared.node.Node.TheVariants.{Final, Method, Noun, Object}

unfoldable pub tree_0 : List Node
tree_0 =
    Object 1 [] (2 ∷ [])
    ∷ Final (codes "t") None
    ∷ Method (codes "put") (3 ∷ []) 4
    ∷ Final (codes "x") None
    ∷ Noun (codes "x")
    ∷ []

unfoldable pub tree_1 : List Node
tree_1 =
    Object 1 [] []
    ∷ Final (codes "o") None
    ∷ []

unfoldable pub play : Play
play = record {
  script = record {
    key = (0 ∷ 0 ∷ 0 ∷ 0 ∷ 0 ∷ 0 ∷ 0 ∷ 0 ∷ 0 ∷ 0 ∷ 0 ∷ 0 ∷ 0 ∷ 0 ∷ 0 ∷ 0 ∷ 0 ∷ 0 ∷ 0 ∷ 0 ∷ 0 ∷ 0 ∷ 0 ∷ 0 ∷ 0 ∷ 0 ∷ 0 ∷ 0 ∷ 0 ∷ 0 ∷ 0 ∷ 0 ∷ []);
    fuel = 1000000;
    depth = 400;
    vats =
        record { name = codes "a"; knows = (2 ∷ []); tree = tree_0 } ∷
        record { name = codes "c"; knows = []; tree = tree_1 } ∷
        record { name = codes "h"; knows = (0 ∷ []); tree = [] } ∷
        [];
    schedule = [];
  };
  hostile = (2 ∷ []);
  doings = Injects 2 0 (2 ∷ 12 ∷ 0 ∷ 3 ∷ 5 ∷ []) ∷ Does (Carry 2 0) ∷ Injects 2 0 (2 ∷ 12 ∷ 0 ∷ 6 ∷ 1 ∷ 13 ∷ 1 ∷ 118 ∷ 184 ∷ 224 ∷ 173 ∷ 160 ∷ 241 ∷ 61 ∷ 144 ∷ 64 ∷ 93 ∷ 106 ∷ 229 ∷ 83 ∷ 134 ∷ 189 ∷ 40 ∷ []) ∷ Does (Carry 2 0) ∷ Injects 2 0 (2 ∷ 12 ∷ 1 ∷ 15 ∷ 1 ∷ []) ∷ Does (Carry 2 0) ∷ [];
}

-- what is due of it
abbrev pub due : List ℕ
due = lines (
    codes "open a"
    ∷ codes "!0 made a.0 t"
    ∷ codes "!0 done a.0"
    ∷ codes "settle @a a.0"
    ∷ codes "open c"
    ∷ codes "!0 made c.0 o"
    ∷ codes "!0 done c.0"
    ∷ codes "settle @c c.0"
    ∷ codes "1 inject h a 020c000305"
    ∷ codes "2 carry h a settled @h 5"
    ∷ codes "frame 020c000305"
    ∷ codes "settle @h 5"
    ∷ codes "3 inject h a 020c0006010d0176b8e0ada0f13d90405d6ae55386bd28"
    ∷ codes "4 carry h a settled @h [c^h:76b8e0ada0f13d90405d6ae55386bd28]"
    ∷ codes "frame 020c0006010d0176b8e0ada0f13d90405d6ae55386bd28"
    ∷ codes "5 inject h a 020c010f01"
    ∷ codes "6 carry h a elsewhere h~0 c"
    ∷ codes "frame 020c010f01"
    ∷ codes "view h~0 c^0"
    ∷ codes "left link a c ask c^0 h"
    ∷ codes "left link a h settled @a a.0"
    ∷ codes "left link a h shorten h~0 c^0"
    ∷ codes "end"
    ∷ [])

abbrev pub Holds : Type 0
Holds = wire_text play (acts play) ≡ due

unfoldable pub opened : Unit {0}
unfolding tree_0 tree_1 play
opened = tt
