-- A run with hostile vats, and its text with its frames.
use Rattle.std.specs.Prelude.{◌≡◌, ℕ, List, [], ◌∷◌, codes, None}
use Rattle.def_run.specs.World.{Carry, Turn, Script}
use Rattle.def_hostile.specs.Hostile.{Play, Does, Injects, acts}
use Rattle.def_hostile.specs.HostileText.{wire_text}
use Rattle.test_hostile.specs.Lines.{lines}
use Rattle.def_kernel.specs.declared.node.Node.{Node}
use Rattle.def_kernel.specs.declared.node.Node.TheVariants.{Final, Matcher, Method, Noun, Object}

unfoldable pub tree_0 : List Node
tree_0 =
    Object 1 [] (2 ∷ 5 ∷ [])
    ∷ Final (codes "t") None
    ∷ Method (codes "put") (3 ∷ []) 4
    ∷ Final (codes "x") None
    ∷ Noun (codes "x")
    ∷ Matcher 6 7
    ∷ Final (codes "m") None
    ∷ Noun (codes "m")
    ∷ []

unfoldable pub play : Play
play = record {
  script = record {
    key = (0 ∷ 0 ∷ 0 ∷ 0 ∷ 0 ∷ 0 ∷ 0 ∷ 0 ∷ 0 ∷ 0 ∷ 0 ∷ 0 ∷ 0 ∷ 0 ∷ 0 ∷ 0 ∷ 0 ∷ 0 ∷ 0 ∷ 0 ∷ 0 ∷ 0 ∷ 0 ∷ 0 ∷ 0 ∷ 0 ∷ 0 ∷ 0 ∷ 0 ∷ 0 ∷ 0 ∷ 0 ∷ []);
    fuel = 1000000;
    depth = 400;
    vats =
        record { name = codes "a"; knows = []; tree = tree_0 } ∷
        record { name = codes "h"; knows = (0 ∷ []); tree = [] } ∷
        [];
    schedule = [];
  };
  hostile = (1 ∷ []);
  doings = Injects 1 0 (1 ∷ 0 ∷ 9 ∷ 0 ∷ 3 ∷ 112 ∷ 117 ∷ 116 ∷ 3 ∷ 11 ∷ 0 ∷ 12 ∷ 1 ∷ 11 ∷ 0 ∷ []) ∷ Does (Carry 1 0) ∷ Does (Turn 0) ∷ Injects 1 0 (2 ∷ 12 ∷ 1 ∷ 6 ∷ 2 ∷ 11 ∷ 2 ∷ 12 ∷ 3 ∷ []) ∷ Does (Carry 1 0) ∷ Injects 1 0 (2 ∷ 12 ∷ 1 ∷ 6 ∷ 2 ∷ 11 ∷ 4 ∷ 12 ∷ 5 ∷ []) ∷ Does (Carry 1 0) ∷ Injects 1 0 (2 ∷ 12 ∷ 3 ∷ 5 ∷ 1 ∷ 97 ∷ []) ∷ Does (Carry 1 0) ∷ [];
}

-- what is due of it
abbrev pub due : List ℕ
due = lines (
    codes "open a"
    ∷ codes "!0 made a.0 t"
    ∷ codes "!0 done a.0"
    ∷ codes "settle @a a.0"
    ∷ codes "1 inject h a 0100090003707574030b000c010b00"
    ∷ codes "2 carry h a deliver h/0 @a put h.0 h~0 h.0"
    ∷ codes "frame 0100090003707574030b000c010b00"
    ∷ codes "3 turn a"
    ∷ codes "!1 take h/0 a.0 put h.0 h~0 h.0"
    ∷ codes "!1 list a%0 h.0 h~0 h.0"
    ∷ codes "!1 list a%1 \"put\" a%0"
    ∷ codes "!1 ejector a.1"
    ∷ codes "!1 done a%1"
    ∷ codes "settle a?h/0 a%1"
    ∷ codes "4 inject h a 020c0106020b020c03"
    ∷ codes "5 carry h a settled h~0 [h.1 h~1]"
    ∷ codes "frame 020c0106020b020c03"
    ∷ codes "list a%2 h.1 h~1"
    ∷ codes "settle h~0 a%2"
    ∷ codes "6 inject h a 020c0106020b040c05"
    ∷ codes "7 carry h a settled h~0 [h.2 h~2]"
    ∷ codes "frame 020c0106020b040c05"
    ∷ codes "8 inject h a 020c03050161"
    ∷ codes "9 carry h a settled h~1 \"a\""
    ∷ codes "frame 020c03050161"
    ∷ codes "settle h~1 \"a\""
    ∷ codes "left link a h settled @a a.0"
    ∷ codes "left link a h settled a?h/0 [\"put\" [h.0 h~0 h.0]]"
    ∷ codes "end"
    ∷ [])

abbrev pub Holds : Type 0
Holds = wire_text play (acts play) ≡ due

unfoldable pub opened : Unit {0}
unfolding tree_0 play
opened = tt
